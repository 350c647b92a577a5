use Rattle.std.proofs.Common.{◌≡◌, drop}
use Rattle.thrift_compact.specs.View.{views, pair_views, field_views}
use Rattle.thrift_compact.proofs.sameness.+same.Given as goal

-- what is left is the same just where all is
abbrev pub invariant-same_fields-loop-i : goal.invariant-same_fields-loop-i
invariant-same_fields-loop-i l = record {
  whole : field_views (drop l.i l.a) ≡ field_views (drop l.i l.b) → field_views l.a ≡ field_views l.b;
  left : field_views l.a ≡ field_views l.b → field_views (drop l.i l.a) ≡ field_views (drop l.i l.b);
}

abbrev pub invariant-same_nodes-loop-i : goal.invariant-same_nodes-loop-i
invariant-same_nodes-loop-i l = record {
  whole : views (drop l.i l.a) ≡ views (drop l.i l.b) → views l.a ≡ views l.b;
  left : views l.a ≡ views l.b → views (drop l.i l.a) ≡ views (drop l.i l.b);
}

abbrev pub invariant-same_pairs-loop-i : goal.invariant-same_pairs-loop-i
invariant-same_pairs-loop-i l = record {
  whole : pair_views (drop l.i l.a) ≡ pair_views (drop l.i l.b) → pair_views l.a ≡ pair_views l.b;
  left : pair_views l.a ≡ pair_views l.b → pair_views (drop l.i l.a) ≡ pair_views (drop l.i l.b);
}

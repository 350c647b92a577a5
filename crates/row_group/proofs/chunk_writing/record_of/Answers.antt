use Rattle.std.proofs.Common.{◌≡◌, ◌∙◌, Some, refl, ap, arith, rules, FitsSigned, to_z, of_z, w32, w64}
use Rattle.std.specs.Prelude.{ℤ, pos}
use Rattle.std.proofs.lemmas.Int.{to_z_pos, to_z-of_z}
use Rattle.schema.specs.declared.value.Kind.{Kind}
use Rattle.schema.specs.declared.value.Kind.TheVariants.{Boolean, Int32, Int64, ByteArray, FixedLenByteArray}
use Rattle.schema.specs.Listed.{type_number}
use Rattle.row_group.proofs.chunk_writing.record_of.Goals as goal

number_kept : (k : Kind) → to_z w32 (of_z w32 (pos (type_number k))) ≡ pos (type_number k)
number_kept Boolean = refl
number_kept Int32 = refl
number_kept Int64 = refl
number_kept ByteArray = refl
number_kept (FixedLenByteArray n) = refl

pub returns-clause-of_leaf : goal.returns-clause-of_leaf
returns-clause-of_leaf c = record {
  path = c.requires.path;
  kind = ap (λ (z : ℤ). to_z w32 (of_z w32 z)) c.number.ensures ∙ number_kept c.args.leaf.now.leaf_type.kind;
  codec = refl;
}

pub returns-clause-count : goal.returns-clause-count
returns-clause-count c = to_z_pos w64 c.args.count (omega (arith, c.requires.few))

pub returns-clause-pages : goal.returns-clause-pages
returns-clause-pages c =
    let fits : FitsSigned w64 c.args.pages.data_page_offset = search rules in
    record { numbers = refl; dictionary_offset = refl; data_offset = to_z-of_z w64 c.args.pages.data_page_offset fits }

pub returns-clause-size : goal.returns-clause-size
returns-clause-size c = ap (λ (z : ℤ). Some z) (to_z_pos w64 c.args.size (omega (arith, c.requires.size)))

pub returns-clause-plain_size : goal.returns-clause-plain_size
returns-clause-plain_size c = ap (λ (z : ℤ). Some z) (to_z_pos w64 c.args.size (omega (arith, c.requires.size)))

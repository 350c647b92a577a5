-- Which chunks are written from values that wait in PLAIN.
use Rattle.std.specs.Prelude.{◌≡◌, ◌≢◌, List}
use Rattle.schema.specs.declared.value.Kind.{Kind}
use Rattle.schema.specs.declared.value.Kind.TheVariants.{Boolean}
use Rattle.schema.specs.Stripe.{Leaf, Entry}
use Rattle.pages.specs.declared.encoding.Encoding.TheVariants.{Plain}
use Rattle.row_group.specs.declared.options.Style.{Style}
use Rattle.row_group.specs.Styles.{encoding_of, SuitsDictionary}

-- The pages of a chunk of the leaf have values of this type as they are in PLAIN, and nothing else: the leaf has no levels, they are of its
-- type and no BOOLEANs, and their style writes them in PLAIN without a dictionary.
pub record IsCopied (leaf : Leaf) (style : Style) (kind : Kind) : Type 0 where
  pub repetition : leaf.greatest_repetition ≡ 0
  pub definition : leaf.greatest_definition ≡ 0
  pub same_kind : kind ≡ leaf.leaf_type.kind
  pub whole_bytes : kind ≢ Boolean
  pub encoding : encoding_of style leaf.leaf_type.kind ≡ Plain
  pub no_dictionary : (es : List Entry) → SuitsDictionary style leaf.leaf_type.kind es → ⊥

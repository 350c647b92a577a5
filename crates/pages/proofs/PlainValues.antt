-- The encoding that a page says.
use Rattle.std.proofs.Common.{◌≡◌, Option, Some, ap, ◌∙◌}
use Rattle.pages.specs.declared.encoding.Encoding.{Encoding}

pub some_encoding : (o : Option Encoding) (e f : Encoding) → o ≡ Some e → e ≡ f → o ≡ Some f
some_encoding o e f is same = is ∙ ap (λ (x : Encoding). Some x) same

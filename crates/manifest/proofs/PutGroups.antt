-- Groups that are written one after the other.
use Rattle.std.proofs.Common.{◌≡◌, ℕ, ◌++◌, [], List, sym, subst, append_assoc}
use Rattle.std.proofs.lemmas.List.{append-nil}
use Rattle.metadata.specs.Records.{GroupMeta}
use Rattle.metadata.specs.Begun.{BeginsFooter}
use Rattle.manifest.specs.inner.Writing.{PutsGroups}

pub puts_none : (old : List ℕ) → PutsGroups [] old old
puts_none old m done start p = subst (λ (gs : List GroupMeta). BeginsFooter m gs start old) (sym (append-nil done)) p

pub puts_then : (a b : List GroupMeta) (old mid new : List ℕ) → PutsGroups a old mid → PutsGroups b mid new → PutsGroups (a ++ b) old new
puts_then a b old mid new p q m done start begun = subst (λ (gs : List GroupMeta). BeginsFooter m gs start new) (append_assoc done a b) (q m (done ++ a) start (p m done start begun))

-- these are the same
pub puts_as : (a b : List GroupMeta) (old new : List ℕ) → a ≡ b → PutsGroups a old new → PutsGroups b old new
puts_as a b old new e p = subst (λ (gs : List GroupMeta). PutsGroups gs old new) e p

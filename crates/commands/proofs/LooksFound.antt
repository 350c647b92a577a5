-- What a look finds, on a disk that read the same before it.
use Rattle.std.proofs.Common.{◌≡◌, ◌∙◌, ◌++◌, ℕ, Bool, List, Option, Some, codes, decimal, length, sym, subst}
use Rattle.std.specs.Prelude.{IsUtf8}
use Rattle.std.specs.Str.Lines.{lines}
use Rattle.std.specs.Io.KnownBytes.{Appends}
use Rattle.std.proofs.KnownBytes.{Appends-trans}
use Rattle.schema.specs.Shape.{Fields}
use Rattle.schema.specs.Values.{ValueTrees}
use Rattle.disk.specs.State.{Image, content}
use Rattle.vault.specs.Views.{root_path}
use Rattle.manifest.specs.Groups.{Root}
use Rattle.manifest.specs.Root.{RootMeans}
use Rattle.manifest.specs.Table.{path_of_group}
use Rattle.upkeep.specs.Intact.{AreHeld}
use Rattle.dataset_words.specs.declared.call.Look.{Look}
use Rattle.dataset_words.specs.declared.call.Look.TheVariants.{Survey, Files, Rows}
use Rattle.commands.specs.RowLines.{AreRowTexts}
use Rattle.commands.specs.Looking.{MayBeNote, LinesFit, Finds, FindsTable}

-- lines that are rows, and what is printed of them in two parts
pub fit_of : (texts : Bool) (fs : Fields) (file text : List ℕ) (before mid after : Option (List ℕ)) → text ≡ file → IsUtf8 file
    → (rows : List ValueTrees) × AreRowTexts texts fs (lines text) rows × Appends before mid (codes "ok " ++ decimal (length rows) ++ codes " rows\n")
    → (note : List ℕ) × MayBeNote note × Appends mid after note → LinesFit texts fs file before after
fit_of texts fs file text before mid after same is_text fit noted = record {
  is_text = is_text;
  rows = fit.0;
  read = subst (λ (t : List ℕ). AreRowTexts texts fs (lines t) fit.0) same fit.1;
  note = noted.0;
  noted = noted.1;
  printed = Appends-trans before mid after (codes "ok " ++ decimal (length fit.0) ++ codes " rows\n") noted.0 fit.2 noted.2;
}

module _ (old mid : Image) (same : (path : List ℕ) → content mid path ≡ content old path) (root : Root) where
  -- the files that are held after it were held before it
  held_before : AreHeld mid root → AreHeld old root
  held_before held g has = let h = held g has in (h.0, sym (same (path_of_group root g)) ∙ h.1, h.2)

  -- so what a look finds
  finds_before : (texts : Bool) (look : Look) (file : List ℕ) (before after : Option (List ℕ)) → Finds texts look file mid root before after
      → Finds texts look file old root before after
  finds_before texts (Survey min_rows as_json) file before after finds = tt
  finds_before texts Files file before after finds = held_before finds
  finds_before texts (Rows rows) file before after finds = finds

  -- a root that was there describes the table in which a look finds that
  pub found_table : (bytes : List ℕ) → content old root_path ≡ Some bytes → RootMeans bytes root
      → (texts : Bool) (look : Look) (file : List ℕ) (before after : Option (List ℕ)) → Finds texts look file mid root before after
      → FindsTable texts look file old before after
  found_table bytes there means texts look file before after finds =
      record { bytes = bytes; root = root; there = there; means = means; finds = finds_before texts look file before after finds }

-- What the program does with files.
use Rattle.std.specs.Prelude.{◌≡◌, ◌⊎◌, ℕ, Bool, List, [], ◌∷◌, ◌++◌, map, flat_map, length, take, codes, decimal, IsTrue, Option, Some, None}
use Rattle.std.specs.List.{list_all}
use Rattle.std.specs.Io.KnownBytes.{Appends}
use Rattle.std.specs.Str.Lines.{lines}
use Rattle.serde_json.specs.Data.{Data, Members}
use Rattle.serde_json.specs.Read.{read}
use Rattle.bits.specs.declared.refusal.Refusal.{Refusal}
use Rattle.bits.specs.declared.refusal.Refusal.TheVariants.{Limit, Memory, RowShape, Device, Script}
use Rattle.schema.specs.Values.{ValueTrees}
use Rattle.schema.specs.Shape.{Fields}
use Rattle.footer.specs.declared.options.WriteOptions.{WriteOptions}
use Rattle.metadata.specs.Records.{FileMeta}
use Rattle.footer.specs.File.{IsFile, FileMeans}
use Rattle.footer.specs.Faults.{HasFault, HasFooterFault}
use Rattle.footer.specs.FirstRows.{MeansFirstRows}
use Rattle.footer.specs.FirstRows.{HasFirstFault as HasFaultBefore}
use Rattle.footer.specs.Own.{IsLaidOut}
use Rattle.footer.specs.Writing.{IsOutOfRange, IsTooMuch}
use Rattle.rowtext.specs.Json.{row_text_as}
use Rattle.columns.specs.Columns.{Columns, wanted_fields, wanted_places, cut, is_field, first_of}
use Rattle.rowtext.specs.Reading.{row_of_as, line_of, members_read_as}
use Rattle.jsonrows.specs.SchemaJson.{IsSchemaText, IsRefusedSchema}
use Rattle.program.specs.Paths.{Place, Places, HasBytes, HasFront, IsLarge, IsNoText, IsFileRefusal, IsPlaceRefusal, MakesFile}

-- the bytes of the greatest file that is read: 2^31 - 1
abbrev pub greatest_file : ℕ
greatest_file = 2147483647

-- each row as a line, ended by a line feed, with texts of dates, times, timestamps and decimals or without
abbrev pub lines_of : Bool → Fields → List ValueTrees → List ℕ
lines_of texts fs rows = flat_map (λ row. row_text_as texts fs row ++ 10 ∷ []) rows

-- the bytes of a file mean some rows
abbrev pub MeansRows : List ℕ → Type 0
MeansRows bytes = (fs : Fields) × (rows : List ValueTrees) × FileMeans bytes fs rows

-- the rows that the bytes of a file mean, or those of its first groups that have so many rows, which begin with the first so many
abbrev pub MeansUpTo : Option ℕ → List ℕ → Fields → List ValueTrees → Type 0
MeansUpTo None bytes fs rows = FileMeans bytes fs rows
MeansUpTo (Some limit) bytes fs rows = MeansFirstRows limit bytes fs rows

-- the bytes of a file mean some rows, or its first groups do that have so many rows
abbrev pub MeansRowsUpTo : Option ℕ → List ℕ → Type 0
MeansRowsUpTo limit bytes = (fs : Fields) × (rows : List ValueTrees) × MeansUpTo limit bytes fs rows

-- that fault is in the file, and in no group but the first ones that have so many rows
abbrev pub HasFaultUpTo : Option ℕ → List ℕ → Refusal → Type 0
HasFaultUpTo None bytes e = HasFault bytes e
HasFaultUpTo (Some limit) bytes e = HasFaultBefore limit bytes e

-- after what a writer held, where that is known, stand the lines of the rows that the bytes of a file mean, with texts or without
pub record WritesRowsOf (texts : Bool) (bytes : List ℕ) (old new : Option (List ℕ)) : Type 0 where
  pub fs : Fields
  pub rows : List ValueTrees
  pub means : FileMeans bytes fs rows
  pub written : Appends old new (lines_of texts fs rows)

-- after what a writer held, where that is known, stand the lines of the first so many rows of a file, with texts or without. The
-- groups after those that have these rows can be anything.
pub record WritesFirstRowsOf (texts : Bool) (limit : ℕ) (bytes : List ℕ) (old new : Option (List ℕ)) : Type 0 where
  pub fs : Fields
  pub rows : List ValueTrees
  pub means : MeansFirstRows limit bytes fs rows
  pub written : Appends old new (lines_of texts fs (take limit rows))

-- of all rows that the bytes of a file mean, or of its first so many rows
abbrev pub WritesRowsUpTo : Bool → Option ℕ → List ℕ → Option (List ℕ) → Option (List ℕ) → Type 0
WritesRowsUpTo texts None bytes old new = WritesRowsOf texts bytes old new
WritesRowsUpTo texts (Some limit) bytes old new = WritesFirstRowsOf texts limit bytes old new

-- the columns of a schema that are asked for: all, or those of some names, in the order of the schema
abbrev pub asked_fields : Columns → Fields → Fields
asked_fields None fs = fs
asked_fields (Some names) fs = wanted_fields (Some names) fs

-- rows in these columns
abbrev pub asked_rows : Columns → Fields → List ValueTrees → List ValueTrees
asked_rows None fs rows = rows
asked_rows (Some names) fs rows = map (cut (wanted_places (Some names) 0 fs)) rows

-- each name that is asked for is that of a column
abbrev pub AreColumns : Columns → Fields → Type 0
AreColumns None fs = Unit {0}
AreColumns (Some names) fs = IsTrue (list_all (is_field fs) names)

-- The bytes of a file mean the rows that those of another one mean, or its first so many rows, in the columns that are asked for. They
-- are laid out as these options say, which are in range.
pub record IsCopyOf (options : WriteOptions) (columns : Columns) (limit : Option ℕ) (bytes copy : List ℕ) : Type 0 where
  pub fs : Fields
  pub rows : List ValueTrees
  pub means : MeansUpTo limit bytes fs rows
  pub there : AreColumns columns fs
  pub copied : FileMeans copy (asked_fields columns fs) (first_of limit (asked_rows columns fs rows))
  pub laid_out : IsLaidOut options (asked_fields columns fs) (first_of limit (asked_rows columns fs rows)) copy
  pub in_range : IsOutOfRange options → ⊥

-- Why a file is not copied: it has that fault, or it was accepted. (For which columns or rows an accepted file is not copied, this does
-- not say.)
abbrev pub IsCopyRefusal : Option ℕ → List ℕ → Refusal → Type 0
IsCopyRefusal limit bytes e = HasFaultUpTo limit bytes e ⊎ MeansRowsUpTo limit bytes

-- a line is JSON, and this row, with texts of dates, times, timestamps and decimals or without
abbrev pub IsRowText : Bool → Fields → List ℕ → ValueTrees → Type 0
IsRowText texts fs line row = (d : Data) × (read line ≡ Some d) × (row_of_as texts fs d ≡ Some row)

-- a line is refused so: it is no JSON object, or one that is no row
abbrev pub IsRefusedLine : Bool → Fields → List ℕ → Refusal → Type 0
IsRefusedLine texts fs line Script = line_of line ≡ None
IsRefusedLine texts fs line RowShape = (ms : Members) × (line_of line ≡ Some ms) × (members_read_as texts fs ms ≡ None)
IsRefusedLine texts fs line _ = ⊥

-- each line is that of a row, in their order
abbrev pub AreRowTexts : Bool → Fields → List (List ℕ) → List ValueTrees → Type 0
AreRowTexts texts fs [] [] = Unit {0}
AreRowTexts texts fs (line ∷ others) (row ∷ rows) = IsRowText texts fs line row × AreRowTexts texts fs others rows
AreRowTexts texts fs _ _ = ⊥

-- a line is refused so, and those before it are rows
pub record HasFirstFault (texts : Bool) (fs : Fields) (all : List (List ℕ)) (e : Refusal) : Type 0 where
  pub before : List (List ℕ)
  pub line : List ℕ
  pub after : List (List ℕ)
  pub rows : List ValueTrees
  pub joined : all ≡ before ++ line ∷ after
  pub read : AreRowTexts texts fs before rows
  pub refused : IsRefusedLine texts fs line e

-- The bytes of a file mean, in the schema of one text, the rows of another, one for each of its lines, with texts of dates, times,
-- timestamps and decimals or without. They are laid out as these options say, which are in range.
pub record IsFileOf (texts : Bool) (options : WriteOptions) (schema_text rows_text bytes : List ℕ) : Type 0 where
  pub fs : Fields
  pub rows : List ValueTrees
  pub schema : IsSchemaText schema_text fs
  pub read : AreRowTexts texts fs (lines rows_text) rows
  pub means : FileMeans bytes fs rows
  pub laid_out : IsLaidOut options fs rows bytes
  pub in_range : IsOutOfRange options → ⊥

-- two texts, of a schema and of rows, have a file of this many rows: one for each line of the second
abbrev pub HaveFileOf : Bool → WriteOptions → List ℕ → List ℕ → ℕ → Type 0
HaveFileOf texts options schema_text rows_text n = ((bytes : List ℕ) × IsFileOf texts options schema_text rows_text bytes) × (n ≡ length (lines rows_text))

-- after what a writer held, where that is known, stands `ok N rows`, where the texts at two places have a file of N rows, and what is
-- noted of them
pub record WritesCount (texts : Bool) (options : WriteOptions) (schema_at rows_at : Place) (old new : Option (List ℕ)) : Type 0 where
  pub schema_text : List ℕ
  pub rows_text : List ℕ
  pub schema : HasBytes schema_at schema_text
  pub rows : HasBytes rows_at rows_text
  pub count : ℕ
  pub have : HaveFileOf texts options schema_text rows_text count
  pub note : List ℕ
  pub written : Appends old new ((codes "ok " ++ decimal count ++ codes " rows\n") ++ note)

-- after what a writer held, where that is known, stands what is said of a file whose footer stands
pub record WritesReportOf (bytes : List ℕ) (old new : Option (List ℕ)) : Type 0 where
  pub front : List ℕ
  pub meta : FileMeta
  pub text : List ℕ
  pub file : IsFile bytes front meta
  pub written : Appends old new text

-- a new file is at a path, that of the texts at two other paths by these options
pub record MakesFileOf (texts : Bool) (options : WriteOptions) (files after : Places) (schema_path rows_path path : List ℕ) : Type 0 where
  pub schema_text : List ℕ
  pub rows_text : List ℕ
  pub bytes : List ℕ
  pub schema : HasBytes (files schema_path) schema_text
  pub rows : HasBytes (files rows_path) rows_text
  pub is : IsFileOf texts options schema_text rows_text bytes
  pub made : MakesFile files after path bytes

-- in the schema of one text, the first line of the other that is no row is refused so
abbrev pub HasRefusedLine : Bool → List ℕ → List ℕ → Refusal → Type 0
HasRefusedLine texts schema_text rows_text e = (fs : Fields) × IsSchemaText schema_text fs × HasFirstFault texts fs (lines rows_text) e

-- the rows of a text, in the schema of another, are not written: the options are out of range, or the rows are too much for a file
pub record AreNotWritten (texts : Bool) (options : WriteOptions) (schema_text rows_text : List ℕ) : Type 0 where
  pub fs : Fields
  pub rows : List ValueTrees
  pub schema : IsSchemaText schema_text fs
  pub read : AreRowTexts texts fs (lines rows_text) rows
  pub why : IsOutOfRange options ⊎ IsTooMuch fs options rows

-- why two texts have no file by these options: the schema is refused, a line of the rows is, or the rows are not written
abbrev pub AreRefusedTexts : Bool → WriteOptions → List ℕ → List ℕ → Refusal → Type 0
AreRefusedTexts texts options schema_text rows_text RowShape = HasRefusedLine texts schema_text rows_text RowShape
AreRefusedTexts texts options schema_text rows_text Script = IsRefusedSchema schema_text Script ⊎ HasRefusedLine texts schema_text rows_text Script
AreRefusedTexts texts options schema_text rows_text Limit = IsRefusedSchema schema_text Limit ⊎ AreNotWritten texts options schema_text rows_text
AreRefusedTexts texts options schema_text rows_text e = IsRefusedSchema schema_text e

-- why the texts at two places have no file by these options
pub record AreRefusedTextsAt (texts : Bool) (options : WriteOptions) (schema_at rows_at : Place) (e : Refusal) : Type 0 where
  pub schema_text : List ℕ
  pub rows_text : List ℕ
  pub schema : HasBytes schema_at schema_text
  pub rows : HasBytes rows_at rows_text
  pub why : AreRefusedTexts texts options schema_text rows_text e

-- why no file can be made of what is at two places: Memory or Device; or Script, where the bytes of one are no text; or their texts have
-- no file
abbrev pub AreRefusedSources : Bool → WriteOptions → Place → Place → Refusal → Type 0
AreRefusedSources texts options schema_at rows_at e =
    ((e ≡ Memory) ⊎ (e ≡ Device)) ⊎ (((e ≡ Script) × (IsNoText schema_at ⊎ IsNoText rows_at)) ⊎ AreRefusedTextsAt texts options schema_at rows_at e)

-- why no file is made of them at a third: as above, or Exists, where something is there
abbrev pub AreRefusedFiles : Bool → WriteOptions → Place → Place → Place → Refusal → Type 0
AreRefusedFiles texts options schema_at rows_at at e = IsPlaceRefusal at e ⊎ AreRefusedSources texts options schema_at rows_at e

-- why nothing is said of a file that is read in parts: Memory or Device, or the footer at its ends has that fault
abbrev pub IsPartsRefusal : Refusal → Type 0
IsPartsRefusal e = ((e ≡ Memory) ⊎ (e ≡ Device)) ⊎ ((ends : List ℕ) × HasFooterFault ends e)

-- why nothing is said of the file that is there: Memory or Device, or its footer has that fault; a large one is read in parts
abbrev pub IsReportRefusal : Place → Refusal → Type 0
IsReportRefusal place e = IsFileRefusal place HasFooterFault e ⊎ (IsLarge place × IsPartsRefusal e)

-- after what a writer held, where that is known, stands what is said of the file that is there; of a large one, of which not all is
-- read, that of some file
abbrev pub WritesReportAt : Place → Option (List ℕ) → Option (List ℕ) → Type 0
WritesReportAt place old new =
    ((bytes : List ℕ) × HasFront place bytes × WritesReportOf bytes old new) ⊎ (IsLarge place × ((bytes : List ℕ) × WritesReportOf bytes old new))

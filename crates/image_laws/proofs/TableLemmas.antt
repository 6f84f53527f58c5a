-- What the table of blocks and its pages say, in plain data.
use Rattle.std.proofs.Common.{◌≡◌, ℕ, ◌+◌, ◌*◌, ◌%◌, ◌<◌, List, length, Option, refl, ap, ◌∙◌, arith}
use Rattle.std.specs.Prelude.{min, slice_set}
use Rattle.std.proofs.lemmas.Bool.{both_ways}
use Rattle.std.proofs.lemmas.Option.{get_or_from_slice_get}
use Rattle.page_layout.specs.Geometry.{entries}
use Rattle.page_layout.specs.Word.{word_at}
use Rattle.bad_blocks.specs.declared.class.Class.TheVariants.{Grown}
use Rattle.bad_blocks.specs.declared.table.TableRow.{TableRow}
use Rattle.bad_blocks.specs.Table.{class_at, wear_at, table_row_at, no_table_row}
use Rattle.bad_blocks.proofs.TableLemmas.{slice_get-set_same}
use Rattle.translation_pages.specs.TranslationPage.{entry_at}
use Rattle.translation_pages.specs.Entry.{entry_in, entry_of}
use Rattle.image_check.specs.Blocks.{body_in, table_body, word_of_block}
use Rattle.image_laws.specs.Tables.{WrongWordLaw, SameLengthLaw, TableEraseCountLaw, WordLaw, RightLaw, TableWordLaw, EntryLaw}

pub wrong_word : WrongWordLaw
wrong_word entries blocks u bytes fault first formed = both_ways _ first.wrong (formed.right first.place first.within)

pub same_length : SameLengthLaw
same_length entries u old new kept = kept.length_same

row_set : (rows : List TableRow) (block : ℕ) (row : TableRow) → block < length rows → table_row_at (slice_set rows block row) block ≡ row
row_set rows block row within = get_or_from_slice_get (slice_set rows block row) block row no_table_row (slice_get-set_same rows block row within)

pub erase_count : TableEraseCountLaw
erase_count rows block within =
    let erased = row_set rows block (record { class = class_at rows block; wear = min (wear_at rows block + 1) 16777215 }) within in
    let failed = row_set rows block (record { class = Grown; wear = wear_at rows block }) within in (
      λ less. ap (λ (r : TableRow). r.wear) erased ∙ omega arith,
      λ most. ap (λ (r : TableRow). r.wear) erased ∙ omega arith,
      ap (λ (r : TableRow). r.class) erased,
      ap (λ (r : TableRow). r.wear) failed,
      ap (λ (r : TableRow). r.class) failed,
    )

pub words : WordLaw
words = (refl, refl, refl)

pub right_words : RightLaw
right_words = (refl, refl, refl, refl, refl)

pub table_word : TableWordLaw
unfolding word_of_block table_body
table_word g image block row is = ap (λ (found : Option ℕ). word_at (body_in image found) (4 * (block % entries g))) is

pub entry : EntryLaw
unfolding entry_of entry_at
entry g image sector row = (λ none. ap (entry_in image (sector % entries g)) none, λ some. ap (entry_in image (sector % entries g)) some)

-- A report as data: it has no float, nests less than its reader allows, and says the report.
use Rattle.std.proofs.Common.{◌≡◌, ℕ, ◌≤◌, false, List, [], ◌∷◌, ◌++◌, map, Some, option_and_then, refl, sym, subst, ap, ◌∙◌, arith}
use Rattle.std.specs.Prelude.{All}
use Rattle.std.proofs.lemmas.List.Elements.{All-head, All-tail}
use Rattle.hex.proofs.HexLemmas.{decode_sized-encode_lower}
use Rattle.serde_json.specs.Data.{Data, depth, items_depth, string}
use Rattle.serde_json.specs.Find.{as_str}
use Rattle.serde_json.specs.Read.{max_depth, read}
use Rattle.serde_json.specs.View.{items_of}
use Rattle.serde_json.specs.Written.{compact_text, has_float, items_have_float}
use Rattle.lab_report.specs.Laws.{HasDigests, HasWholeDigest}
use Rattle.lab_report.specs.Note.{Note, Told}
use Rattle.lab_report.specs.Reading.{all_in, note_in, report_in, told_in}
use Rattle.lab_report.specs.Written.{note_data, report_data, report_text}
use Rattle.lab_report.proofs.ReadingLemmas.{feed_left_out}

notes_float : (notes : List Note) → items_have_float (items_of (map note_data notes)) ≡ false
notes_float [] = refl
notes_float (note ∷ notes) = notes_float notes

words_float : (words : List (List ℕ)) → items_have_float (items_of (map string words)) ≡ false
words_float [] = refl
words_float (word ∷ words) = words_float words

pub no_float : (t : Told) → has_float (report_data t) ≡ false
no_float t = rw (notes_float t.read, words_float t.words, notes_float t.wrote) refl

notes_depth : (notes : List Note) → items_depth (items_of (map note_data notes)) ≤ 1
notes_depth [] = omega arith
notes_depth (note ∷ notes) = let rest = notes_depth notes in omega arith

words_depth : (words : List (List ℕ)) → items_depth (items_of (map string words)) ≤ 0
words_depth [] = omega arith
words_depth (word ∷ words) = let rest = words_depth words in omega arith

pub nests : (t : Told) → depth (report_data t) ≤ 127
nests t = omega (arith, notes_depth t.read, words_depth t.words, notes_depth t.wrote)

-- ---- what it says

note_said : (note : Note) → HasWholeDigest note → note_in (note_data note) ≡ Some note
unfolding note_in
note_said note whole = rw (decode_sized-encode_lower note.sha256 32 whole.size whole.bytes) refl

notes_said : (notes : List Note) → All HasWholeDigest notes → all_in note_in (items_of (map note_data notes)) ≡ Some notes
notes_said [] whole = refl
notes_said (note ∷ notes) whole = rw (note_said note (All-head HasWholeDigest note notes whole), notes_said notes (All-tail HasWholeDigest note notes whole)) refl

words_said : (words : List (List ℕ)) → all_in as_str (items_of (map string words)) ≡ Some words
words_said [] = refl
words_said (word ∷ words) = rw (words_said words) refl

pub told_said : (t : Told) → HasDigests t → told_in (report_data t) ≡ Some t
unfolding told_in
told_said t whole = rw (words_said t.words, notes_said t.read whole.read, notes_said t.wrote whole.wrote) refl

-- ---- the text

pub text_is : (t : Told) (v : Data) (made pushed : List ℕ) → v ≡ report_data t → (has_float v ≡ false → made ≡ compact_text v) → pushed ≡ made ++ (10 ∷ []) → pushed ≡ report_text t
text_is t v made pushed is text and_feed = and_feed ∙ ap (λ m. m ++ (10 ∷ [])) (text (ap has_float is ∙ no_float t) ∙ ap compact_text is)

pub says_it : (t : Told) (v : Data) (made pushed : List ℕ) → HasDigests t → v ≡ report_data t → (depth v ≤ max_depth → read made ≡ Some v) → pushed ≡ made ++ (10 ∷ [])
    → report_in pushed ≡ Some t
says_it t v made pushed whole is back and_feed =
    let within : depth v ≤ 127 = let P : Data → Type 0 = λ d. depth d ≤ 127 in subst P (sym is) (nests t) in
    ap report_in and_feed ∙ (ap (λ text. option_and_then told_in (read text)) (feed_left_out made) ∙ (ap (option_and_then told_in) (back within) ∙ (ap told_in is ∙ told_said t whole)))

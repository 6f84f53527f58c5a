-- The digests that a report says.
use Rattle.std.proofs.Common.{◌≡◌, ℕ, List, [], ◌∷◌, Option, Some, None, option_map, option_and_then, Result, Ok, Err, refl, sym, ap, subst, ◌∙◌, length, arith}
use Rattle.std.specs.Prelude.{All, codes}
use Rattle.std.proofs.lemmas.List.Elements.{All-cons, All-nil}
use Rattle.std.proofs.lemmas.Option.{option_and_then_some}
use Rattle.hex.specs.Hex.{IsBytes, decode_sized}
use Rattle.hex.proofs.HexLemmas.{decode_of-ok, decode_sized-ok, decode_sized-twice}
use Rattle.serde_json.specs.Data.{Data, Items, item, no_items}
use Rattle.serde_json.specs.Find.{as_array, as_str, get}
use Rattle.lab_report.specs.Laws.{HasDigests, HasWholeDigest, ReadsDigests}
use Rattle.lab_report.specs.Note.{Note, Told}
use Rattle.lab_report.specs.Reading.{all_in, came_of, digest_in, each_in, note_in, number_in, text_in, told_in}

came : {A E : Type 0} (r : Result A E) (a : A) → came_of r ≡ Some a → r ≡ Ok a
came (Ok b) a e = let same : b ≡ a = cc in ap Ok same
came (Err x) a e = absurd (cc)

mapped : {A B P : Type 0} (f : A → B) (o : Option A) (y : B) → option_map f o ≡ Some y → ((x : A) → o ≡ Some x → f x ≡ y → P) → P
mapped f None y e k = absurd (cc)
mapped f (Some x) y e k = let same : f x ≡ y = cc in k x refl same

whole : (digits sha : List ℕ) → came_of (decode_sized digits 32) ≡ Some sha → (length sha ≡ 32) × IsBytes sha
whole digits sha e =
    let is = came (decode_sized digits 32) sha e in
    let twice = decode_sized-ok digits 32 sha is in
    let parts = decode_of-ok digits sha (sym (decode_sized-twice digits 32 twice) ∙ is) in
    (let size = parts.2 in omega arith, parts.3)

-- what an object says of a file
note_whole : (d : Data) (note : Note) → note_in d ≡ Some note → HasWholeDigest note
unfolding note_in
note_whole d note e =
    let made = λ (name : List ℕ) (bytes : ℕ) (sha : List ℕ). let n : Note = record { name = name; bytes = bytes; sha256 = sha } in n in
    option_and_then_some (λ name. option_and_then (λ bytes. option_map (made name bytes) (digest_in d)) (number_in (codes "bytes") d)) (text_in (codes "name") d) note e (λ name named rest.
    option_and_then_some (λ bytes. option_map (made name bytes) (digest_in d)) (number_in (codes "bytes") d) note rest (λ bytes counted more.
    mapped (made name bytes) (digest_in d) note more (λ sha hashed same.
    option_and_then_some (λ digits. came_of (decode_sized digits 32)) (text_in (codes "sha256") d) sha hashed (λ digits written is.
    let of = whole digits sha is in
    let so : HasWholeDigest (made name bytes sha) = record { size = of.0; bytes = of.1 } in
    subst HasWholeDigest same so))))

notes_whole : (ds : Items) (notes : List Note) → all_in note_in ds ≡ Some notes → All HasWholeDigest notes
notes_whole no_items notes e = let none : [] ≡ notes = cc in subst (All HasWholeDigest) none (All-nil HasWholeDigest)
notes_whole (item d ds) notes e =
    option_and_then_some (λ first. option_map (λ rest. first ∷ rest) (all_in note_in ds)) (note_in d) notes e (λ first is more.
    mapped (λ rest. first ∷ rest) (all_in note_in ds) notes more (λ rest are same. subst (All HasWholeDigest) same (All-cons HasWholeDigest first rest (note_whole d first is) (notes_whole ds rest are))))

each_whole : (name : List ℕ) (d : Data) (notes : List Note) → each_in note_in name d ≡ Some notes → All HasWholeDigest notes
each_whole name d notes e = option_and_then_some (all_in note_in) (option_and_then as_array (get name d)) notes e (λ ds is are. notes_whole ds notes are)

-- what is read as a report
pub reads_digests : ReadsDigests
unfolding told_in
reads_digests d t e =
    let wrote_in = each_in note_in (codes "wrote") d in
    let read_in = each_in note_in (codes "read") d in
    let words_in = each_in as_str (codes "words") d in
    let version_in = text_in (codes "version") d in
    let made = λ (program version : List ℕ) (words : List (List ℕ)) (read wrote : List Note). let of : Told = record { program = program; version = version; words = words; read = read; wrote = wrote } in of in
    option_and_then_some (λ program. option_and_then (λ version. option_and_then (λ words. option_and_then (λ read. option_map (made program version words read) wrote_in) read_in) words_in) version_in) (text_in (codes "program") d) t e (λ program programmed e1.
    option_and_then_some (λ version. option_and_then (λ words. option_and_then (λ read. option_map (made program version words read) wrote_in) read_in) words_in) version_in t e1 (λ version versioned e2.
    option_and_then_some (λ words. option_and_then (λ read. option_map (made program version words read) wrote_in) read_in) words_in t e2 (λ words worded e3.
    option_and_then_some (λ read. option_map (made program version words read) wrote_in) read_in t e3 (λ read are e4.
    mapped (made program version words read) wrote_in t e4 (λ wrote were same.
    let so : HasDigests (made program version words read wrote) = record { read = each_whole (codes "read") d read are; wrote = each_whole (codes "wrote") d wrote were } in
    subst HasDigests same so)))))

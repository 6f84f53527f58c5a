-- What a text says as a report: of each object the members of these names, whatever others it has.
use Rattle.std.specs.Prelude.{◌≡◌, ℕ, ◌==◌, List, [], ◌∷◌, codes, if◌then◌else◌, IsUtf8, Option, Some, None, option_map, option_and_then, Result, Ok, Err}
use Rattle.hex.specs.Hex.{decode_sized}
use Rattle.serde_json.specs.Data.{Data, Items, item, no_items}
use Rattle.serde_json.specs.Find.{as_array, as_number, as_str, as_u64, get}
use Rattle.serde_json.specs.Read.{read}
use Rattle.lab_report.specs.Note.{Note, Told}

-- a member's text, and its number of 64 bits
abbrev pub text_in : List ℕ → Data → Option (List ℕ)
text_in name d = option_and_then as_str (get name d)

abbrev pub number_in : List ℕ → Data → Option ℕ
number_in name d = option_and_then as_u64 (option_and_then as_number (get name d))

-- what came of it, if that is no error
abbrev pub came_of : {A E : Type 0} → Result A E → Option A
came_of (Ok a) = Some a
came_of (Err e) = None

-- the 32 bytes that a member's 64 digits are
abbrev pub digest_in : Data → Option (List ℕ)
digest_in d = option_and_then (λ digits. came_of (decode_sized digits 32)) (text_in (codes "sha256") d)

-- what an object says of a file
unfoldable pub note_in : Data → Option Note
note_in d =
    option_and_then (λ name. option_and_then (λ bytes. option_map (λ sha256. record { name = name; bytes = bytes; sha256 = sha256 }) (digest_in d))
    (number_in (codes "bytes") d)) (text_in (codes "name") d)

-- what each item says, where each says something
abbrev pub all_in : {A : Type 0} → (Data → Option A) → Items → Option (List A)
all_in f no_items = Some []
all_in f (item d ds) = option_and_then (λ first. option_map (λ rest. first ∷ rest) (all_in f ds)) (f d)

-- and what each item of a member does
abbrev pub each_in : {A : Type 0} → (Data → Option A) → List ℕ → Data → Option (List A)
each_in f name d = option_and_then (all_in f) (option_and_then as_array (get name d))

-- what an object says of a run
unfoldable pub told_in : Data → Option Told
told_in d =
    option_and_then (λ program. option_and_then (λ version. option_and_then (λ words. option_and_then (λ read. option_map (λ wrote.
    record { program = program; version = version; words = words; read = read; wrote = wrote })
    (each_in note_in (codes "wrote") d)) (each_in note_in (codes "read") d)) (each_in as_str (codes "words") d))
    (text_in (codes "version") d)) (text_in (codes "program") d)

-- the text without the line feed that it ends with, if it does
abbrev pub without_feed : List ℕ → List ℕ
without_feed [] = []
without_feed (c ∷ []) = if c == 10 then [] else (c ∷ [])
without_feed (c ∷ d ∷ cs) = c ∷ without_feed (d ∷ cs)

-- WHAT A TEXT SAYS AS A REPORT, if it says one
abbrev pub report_in : List ℕ → Option Told
report_in text = option_and_then told_in (read (without_feed text))

-- it says none: a text that is not UTF-8 is no JSON
abbrev pub IsNoReport : List ℕ → Type 0
IsNoReport text = IsUtf8 (without_feed text) → report_in text ≡ None

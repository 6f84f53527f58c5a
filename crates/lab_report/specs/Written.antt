-- A report as JSON: one object, each of its members by rising name, and a line feed.
use Rattle.std.specs.Prelude.{ℕ, List, [], ◌∷◌, ◌++◌, codes, map}
use Rattle.hex.specs.Hex.{encode_lower}
use Rattle.serde_json.specs.Data.{Data, array, member, no_members, number, object, string, unsigned}
use Rattle.serde_json.specs.View.{items_of}
use Rattle.serde_json.specs.Written.{compact_text}
use Rattle.lab_report.specs.Note.{Note, Told}

-- how many bytes a file has, its name, and the digits of its SHA-256
abbrev pub note_data : Note → Data
note_data note =
    object (member (codes "bytes") (number (unsigned note.bytes)) (member (codes "name") (string note.name) (member (codes "sha256") (string (encode_lower note.sha256)) no_members)))

abbrev pub notes_data : List Note → Data
notes_data notes = array (items_of (map note_data notes))

abbrev pub words_data : List (List ℕ) → Data
words_data words = array (items_of (map string words))

abbrev pub report_data : Told → Data
report_data r =
    object (member (codes "program") (string r.program) (member (codes "read") (notes_data r.read) (member (codes "version") (string r.version) (
    member (codes "words") (words_data r.words) (member (codes "wrote") (notes_data r.wrote) no_members)))))

-- with no space, and a line feed
abbrev pub report_text : Told → List ℕ
report_text r = compact_text (report_data r) ++ (10 ∷ [])

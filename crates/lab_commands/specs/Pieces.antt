-- A text that is printed piece by piece, and a document that is printed part by part.
use Rattle.std.specs.Prelude.{ℕ, List, [], ◌∷◌, ◌++◌}
use Rattle.std.specs.Fmt.{decimal}
use Rattle.lab_commands.specs.declared.document.ReportForm.{ReportForm}
use Rattle.lab_commands.specs.declared.parts.Part.{Part}
use Rattle.lab_commands.specs.declared.parts.Part.TheVariants as part
use Rattle.lab_commands.specs.declared.pieces.Piece.{Piece}
use Rattle.lab_commands.specs.declared.pieces.Piece.TheVariants.{Words, Number}
use Rattle.lab_commands.specs.Document.{head_text, if_text, report_words, tail_text, text_below}
use Rattle.lab_commands.specs.Reports.{line_at, line_count}

-- the texts of these, one after another
abbrev pub joined : {A : Type 0} → (A → List ℕ) → List A → List ℕ
joined text [] = []
joined text (p ∷ []) = text p
joined text (p ∷ q ∷ rest) = text p ++ joined text (q ∷ rest)

-- ---- pieces

-- a piece: words, or a number in decimal
abbrev pub piece_text : Piece → List ℕ
piece_text (Words words) = words.now
piece_text (Number n) = decimal n

-- the pieces, one after another
abbrev pub pieces_text : List Piece → List ℕ
pieces_text pieces = joined piece_text pieces

-- ---- parts

-- a part of a document in this form
abbrev pub part_text : ReportForm → Part → List ℕ
part_text form (part.Begin report) = head_text form (report_words report)
part_text form (part.One line) = if_text form line
part_text form (part.List list) = text_below form (line_at list) (line_count list)
part_text form part.End = tail_text form

-- the parts, one after another
abbrev pub parts_text : ReportForm → List Part → List ℕ
parts_text form parts = joined (part_text form) parts

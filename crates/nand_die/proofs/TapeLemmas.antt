-- A record in memory: what its notes and pages say after one more.
use Rattle.std.proofs.Common.{◌≡◌, ℕ, suc, ◌+◌, ◌-◌, ◌*◌, ◌<◌, ◌≤◌, Bool, List, [], ◌∷◌, ◌++◌, take, drop, length, refl, sym, ◌∙◌, ap, arith}
use Rattle.std.proofs.Common.{append_assoc, length-append, length-drop}
use Rattle.std.proofs.Math.Nat.{mul-le-mul_right}
use Rattle.std.proofs.Math.Seq.{take-length}
use Rattle.std.proofs.lemmas.List.{take-append-le, drop-append-le}
use Rattle.page_layout.specs.declared.geometry.Geometry.{Geometry}
use Rattle.page_layout.specs.Geometry.{page_bytes}
use Rattle.page_layout.specs.Page.{Page, Image}
use Rattle.page_layout.specs.Flash.{Operation, Program, Erase}
use Rattle.onfi_cycles.specs.Cycles.{page_of}
use Rattle.nand_die.specs.declared.tape.Note.{Note}
use Rattle.nand_die.specs.declared.tape.Note.TheVariants as note
use Rattle.nand_die.specs.Tape.{TapeValue, IsTape, pages_of, width, width_of, operation_of, log_of_notes, noted_log}
use Rattle.nand_die.proofs.PagesLemmas.{length-pages_of, pages_append, pages_suc}

operation_front : (P : ℕ) (n : Note) (ps qs : List Page) → width P n ≤ length ps → operation_of P n (ps ++ qs) ≡ operation_of P n ps
operation_front P (note.Program row passed) [] qs le = absurd (omega (arith, le))
operation_front P (note.Program row passed) (a ∷ []) qs le = absurd (omega (arith, le))
operation_front P (note.Program row passed) (a ∷ b ∷ ps) qs le = refl
operation_front P (note.Erase block passed) ps qs le = ap (Erase block passed) (take-append-le P ps qs le)

log_append : (P : ℕ) (notes : List Note) (n : Note) (ps qs : List Page) → length ps ≡ width_of P notes → log_of_notes P (notes ++ n ∷ []) (ps ++ qs) ≡ log_of_notes P notes ps ++ (operation_of P n qs ∷ [])
log_append P [] n [] qs e = refl
log_append P [] n (p ∷ ps) qs e = absurd (omega (arith, e))
log_append P (m ∷ notes) n ps qs e =
    let w : ℕ = width P m in
    let le : w ≤ length ps = omega (arith, e) in
    let rest : length (drop w ps) ≡ width_of P notes = omega (arith, e, length-drop w ps) in
    ap (λ o. o ∷ log_of_notes P (notes ++ n ∷ []) (drop w (ps ++ qs))) (operation_front P m ps qs le)
    ∙ ap (λ os. operation_of P m ps ∷ os) (ap (log_of_notes P (notes ++ n ∷ [])) (drop-append-le w ps qs le) ∙ log_append P notes n (drop w ps) qs rest)

pub width_more : (P : ℕ) (notes : List Note) (n : Note) → width_of P (notes ++ n ∷ []) ≡ width_of P notes + width P n
width_more P [] n = omega arith
width_more P (m ∷ notes) n = let h = width_more P notes n in omega (arith, h)

-- one more operation, whose pages are appended
noted_more : (g : Geometry) (notes : List Note) (bytes more : List ℕ) (n : Note) → length bytes ≡ width_of g.pages notes * page_bytes g
    → noted_log g (notes ++ n ∷ []) (bytes ++ more) ≡ noted_log g notes bytes ++ (operation_of g.pages n (pages_of g (width g.pages n) more) ∷ [])
noted_more g notes bytes more n e =
    let P : ℕ = g.pages in
    let W : ℕ = width_of P notes in
    ap (λ k. log_of_notes P (notes ++ n ∷ []) (pages_of g k (bytes ++ more))) (width_more P notes n)
    ∙ (ap (log_of_notes P (notes ++ n ∷ [])) (pages_append g W (width P n) bytes more e)
    ∙ log_append P notes n (pages_of g W bytes) (pages_of g (width P n) more) (length-pages_of g W bytes))

pub noted_program : (g : Geometry) (notes : List Note) (bytes kept left : List ℕ) (row : ℕ) (passed : Bool) → length bytes ≡ width_of g.pages notes * page_bytes g
    → length kept ≡ page_bytes g → length left ≡ page_bytes g
    → noted_log g (notes ++ note.Program row passed ∷ []) ((bytes ++ kept) ++ left) ≡ noted_log g notes bytes ++ (Program row (page_of g kept) passed (page_of g left) ∷ [])
noted_program g notes bytes kept left row passed e lk ll =
    let pages : pages_of g 2 (kept ++ left) ≡ page_of g kept ∷ page_of g left ∷ []
    = pages_suc g 1 kept left lk ∙ ap (λ xs. page_of g kept ∷ page_of g xs ∷ []) (ap (λ k. take k left) (sym ll) ∙ take-length left) in
    ap (noted_log g (notes ++ note.Program row passed ∷ [])) (append_assoc bytes kept left)
    ∙ (noted_more g notes bytes (kept ++ left) (note.Program row passed) e
    ∙ ap (λ ps. noted_log g notes bytes ++ (operation_of g.pages (note.Program row passed) ps ∷ [])) pages)

pub noted_erase : (g : Geometry) (notes : List Note) (bytes left : List ℕ) (block : ℕ) (passed : Bool) → length bytes ≡ width_of g.pages notes * page_bytes g
    → noted_log g (notes ++ note.Erase block passed ∷ []) (bytes ++ left) ≡ noted_log g notes bytes ++ (Erase block passed (pages_of g g.pages left) ∷ [])
noted_erase g notes bytes left block passed e =
    let ps : List Page = pages_of g g.pages left in
    noted_more g notes bytes left (note.Erase block passed) e
    ∙ ap (λ qs. noted_log g notes bytes ++ (Erase block passed qs ∷ [])) (ap (λ k. take k ps) (sym (length-pages_of g g.pages left)) ∙ take-length ps)

-- ---- room

width_least : (P : ℕ) (n : Note) → width P n ≤ P + 2
width_least P (note.Program row passed) = omega arith
width_least P (note.Erase block passed) = omega arith

width_within : (P : ℕ) (notes : List Note) → width_of P notes ≤ length notes * (P + 2)
width_within P [] = omega arith
width_within P (n ∷ notes) = let h = width_within P notes in let k = width_least P n in omega (arith, h, k)

-- one more fits where a place is free
pub one_fits : (P z room : ℕ) (notes : List Note) (n : Note) → length notes < room → width_of P notes * z + width P n * z ≤ room * ((P + 2) * z)
one_fits P z room notes n lt =
    let W : ℕ = width_of P notes in
    let w : ℕ = width P n in
    let L : ℕ = length notes in
    let most : W + w ≤ suc L * (P + 2) = let h = width_within P notes in let k = width_least P n in omega (arith, h, k) in
    let rooms : suc L * (P + 2) ≤ room * (P + 2) = mul-le-mul_right (P + 2) lt in
    let bytes : (W + w) * z ≤ (room * (P + 2)) * z = mul-le-mul_right z (omega (arith, most, rooms)) in
    omega (arith, bytes)

-- its fields after one more
pub tape_more : (g : Geometry) (kept bytes more bytes' : List ℕ) (notes notes' : List Note) (n : Note) (nl bl nl' bl' room nc bc nc' bc' : ℕ)
    → IsTape g kept notes bytes nl bl room nc bc → length notes < room → notes' ≡ notes ++ n ∷ [] → nl' ≡ nl + 1 → nc ≤ nc'
    → bytes' ≡ bytes ++ more → bl' ≡ bl + length more → bc ≤ bc' → length more ≡ width g.pages n * page_bytes g
    → IsTape g kept notes' bytes' nl' bl' room nc' bc'
tape_more g kept bytes more bytes' notes notes' n nl bl nl' bl' room nc bc nc' bc' t lt is_notes is_nl nc_le is_bytes is_bl bc_le is_more =
    let z : ℕ = page_bytes g in
    let ln : length notes' ≡ length notes + 1 = ap length is_notes ∙ length-append notes (n ∷ []) in
    let lb : length bytes' ≡ length bytes + length more = ap length is_bytes ∙ length-append bytes more in
    let w : width_of g.pages notes' * z ≡ (width_of g.pages notes + width g.pages n) * z = ap (λ k. k * z) (ap (width_of g.pages) is_notes ∙ width_more g.pages notes n) in
    record {
      kept_whole = t.kept_whole;
      notes_counted = omega (arith, is_nl, t.notes_counted, ln);
      bytes_counted = omega (arith, is_bl, t.bytes_counted, lb);
      bytes_whole = omega (arith, lb, t.bytes_whole, is_more, w);
      within = omega (arith, ln, lt);
      notes_room = omega (arith, t.notes_room, nc_le);
      bytes_room = omega (arith, t.bytes_room, bc_le);
    }

abbrev pub tape_value : Geometry → Image → List ℕ → ℕ → List Operation → TapeValue
tape_value g image kept free log = record { geometry = g; recording = record { image = image; log = log; at_hand = [] }; free = free; kept = kept }

-- and what it tells then
pub tape_told : (g : Geometry) (image : Image) (kept bytes bytes' : List ℕ) (room : ℕ) (notes notes' : List Note) (n : Note) (op : Operation)
    → notes' ≡ notes ++ n ∷ [] → noted_log g (notes ++ n ∷ []) bytes' ≡ noted_log g notes bytes ++ (op ∷ [])
    → tape_value g image kept (room - length notes') (noted_log g notes' bytes') ≡ tape_value g image kept (room - length notes - 1) (noted_log g notes bytes ++ (op ∷ []))
tape_told g image kept bytes bytes' room notes notes' n op is_notes log =
    let ln : length notes' ≡ length notes + 1 = ap length is_notes ∙ length-append notes (n ∷ []) in
    let free : room - length notes' ≡ room - length notes - 1 = omega (arith, ln) in
    ap (λ f. tape_value g image kept f (noted_log g notes' bytes')) free
    ∙ ap (tape_value g image kept (room - length notes - 1)) (ap (λ ns. noted_log g ns bytes') is_notes ∙ log)

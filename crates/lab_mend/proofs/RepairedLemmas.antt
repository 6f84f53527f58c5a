-- What the pieces and the list are once all pages were taken.
use Rattle.std.proofs.Common.{◌≡◌, ℕ, ◌<◌, Bool, true, false, cond, List, [], ◌∷◌, length, get_or, slice_get, All, Option, Some, None, refl, sym, ap, ◌∙◌, subst, arith}
use Rattle.std.specs.Prelude.{option_map}
use Rattle.std.specs.List.{range_with_len, filter_map, cons_option}
use Rattle.std.proofs.lemmas.List.Elements.{All-nil, All-cons}
use Rattle.std.proofs.lemmas.List.{same_lists, get_or_default}
use Rattle.std.proofs.lemmas.Option.{same_Some, slice_get-get_or, get_or_from_slice_get}
use Rattle.page_layout.specs.declared.geometry.Geometry.{Geometry}
use Rattle.page_layout.specs.Geometry.{row_count, page_bytes}
use Rattle.page_layout.specs.Page.{Page, Image, page}
use Rattle.page_layout.specs.Raw.{raw_image, bytes_of_page}
use Rattle.page_layout.proofs.RawLemmas.{length-raw_image}
use Rattle.lab_dump.specs.Scan.{IsTaken}
use Rattle.lab_dump.specs.Rows.{is_asked}
use Rattle.lab_dump.specs.declared.rows.Rows.{Rows}
use Rattle.lab_dump.proofs.ScanLemmas.{if_both}
use Rattle.lab_dump.proofs.RowLemmas.{numbered_size, numbered_get}
use Rattle.lab_dump.specs.PageBytes.{page_from_bytes}
use Rattle.lab_dump.proofs.PageLemmas.{bytes_again}
use Rattle.lab_mend.specs.declared.pairs.BitTurn.{BitTurn}
use Rattle.lab_mend.specs.declared.repairing.Mend.{Mend}
use Rattle.lab_mend.specs.declared.repairing.RepairAsked.{RepairAsked}
use Rattle.lab_mend.specs.Pairs as Pairs
use Rattle.lab_mend.specs.Pairs.{page_turn_of, turned_back}
use Rattle.lab_mend.specs.Repairing.{as_mend, turn_at, mend_in, mends_below, repaired_bytes, piece_to_write, AreMendedBelow, IsTurnTold, IsOwn, AreMendedOwn, OwnRepairLaw, ShowsRepair, RepairingStands}
use Rattle.lab_mend.specs.Repaired.{pieces_of, IsRepaired, RepairedRowsLaw}
use Rattle.lab_mend.proofs.PairLemmas.{back_again, left_so}

-- what is asked is the same where both its parts are
pub same_asked : (a b : RepairAsked) → a.rows ≡ b.rows → Some a.bits ≡ Some b.bits → a ≡ b
same_asked a b rows bits =
    let number : a.bits ≡ b.bits = same_Some a.bits b.bits bits in
    let first : a ≡ record { rows = b.rows; bits = a.bits } = ap (λ (r : Option Rows). record { rows = r; bits = a.bits }) rows in
    first ∙ ap (λ n. record { rows = b.rows; bits = n }) number

-- ---- one page

asked_turn : (asked : RepairAsked) (row : ℕ) (p : Page) → is_asked asked.rows row ≡ true → turn_at asked row p ≡ page_turn_of asked.bits p
asked_turn asked row p is = ap (λ b. cond b (page_turn_of asked.bits p) None) is

unasked_turn : (asked : RepairAsked) (row : ℕ) (p : Page) → is_asked asked.rows row ≡ false → turn_at asked row p ≡ None
unasked_turn asked row p is = ap (λ b. cond b (page_turn_of asked.bits p) None) is

-- a page of these bytes was repaired, by that, and its bytes are these now
pub repaired_own : (g : Geometry) (asked : RepairAsked) (row : ℕ) (was now : List ℕ) (turn : Option BitTurn) → is_asked asked.rows row ≡ true → turn ≡ page_turn_of asked.bits (page_from_bytes g.data_bytes was)
    → page_from_bytes g.data_bytes now ≡ Pairs.repaired asked.bits (page_from_bytes g.data_bytes was) → length now ≡ page_bytes g → IsOwn g asked row turn now
repaired_own g asked row was now turn is named after size = record {
  size = size;
  turn_is =
      let p : Page = page_from_bytes g.data_bytes was in
      asked_turn asked row (turned_back (page_from_bytes g.data_bytes now) turn) is
      ∙ (ap (λ q. page_turn_of asked.bits (turned_back q turn)) after
      ∙ (ap (λ o. page_turn_of asked.bits (turned_back (Pairs.repaired asked.bits p) o)) named ∙ (ap (page_turn_of asked.bits) (back_again asked.bits p) ∙ sym named)));
}

-- the row wasn't asked for
pub unasked_own : (g : Geometry) (asked : RepairAsked) (row : ℕ) (now : List ℕ) → is_asked asked.rows row ≡ false → length now ≡ page_bytes g → IsOwn g asked row None now
unasked_own g asked row now is size = record { size = size; turn_is = unasked_turn asked row (page_from_bytes g.data_bytes now) is }

pub asked_same : (asked : RepairAsked) (row : ℕ) (p : Page) (turn : Option BitTurn) → is_asked asked.rows row ≡ true → turn ≡ page_turn_of asked.bits p → turn ≡ turn_at asked row p
asked_same asked row p turn is e = e ∙ sym (asked_turn asked row p is)

pub unasked_same : (asked : RepairAsked) (row : ℕ) (p : Page) → is_asked asked.rows row ≡ false → None ≡ turn_at asked row p
unasked_same asked row p is = sym (unasked_turn asked row p is)

pub asked_piece : (asked : RepairAsked) (row : ℕ) (p : Page) → is_asked asked.rows row ≡ true → piece_to_write asked row p ≡ repaired_bytes asked.bits p
asked_piece asked row p is = ap (λ b. cond b (repaired_bytes asked.bits p) (bytes_of_page p)) is

pub unasked_piece : (asked : RepairAsked) (row : ℕ) (p : Page) → is_asked asked.rows row ≡ false → piece_to_write asked row p ≡ bytes_of_page p
unasked_piece asked row p is = ap (λ b. cond b (repaired_bytes asked.bits p) (bytes_of_page p)) is

pub repaired_piece : (g : Geometry) (bits : ℕ) (was now : List ℕ) → page_from_bytes g.data_bytes now ≡ Pairs.repaired bits (page_from_bytes g.data_bytes was) → now ≡ repaired_bytes bits (page_from_bytes g.data_bytes was)
repaired_piece g bits was now after = sym (bytes_again g.data_bytes now) ∙ ap bytes_of_page after

-- a named row's page, whatever it was
pub own_law : OwnRepairLaw
own_law g asked row piece t h = by (is_asked asked.rows row) refl
  where
    q : Page
    q = page_from_bytes g.data_bytes piece

    by : (b : Bool) → is_asked asked.rows row ≡ b → (is_asked asked.rows row ≡ true) × IsTurnTold t q
    by false e = absurd (let none : None ≡ Some t = sym (unasked_turn asked row (turned_back q (Some t)) e) ∙ h.turn_is in cc)
    by true e = (e, left_so asked.bits q t (sym (asked_turn asked row (turned_back q (Some t)) e) ∙ h.turn_is))

-- ---- all of them

pub pieces_size : (asked : RepairAsked) (image : Image) → length (pieces_of asked image) ≡ length image
pieces_size asked image = numbered_size (λ numbered. piece_to_write asked numbered.0 numbered.1) image

pub pieces_get : (asked : RepairAsked) (image : Image) (row : ℕ) → slice_get (pieces_of asked image) row ≡ option_map (piece_to_write asked row) (slice_get image row)
pieces_get asked image row = numbered_get (λ numbered. piece_to_write asked numbered.0 numbered.1) image row

pieces_read : (g : Geometry) (asked : RepairAsked) (image : Image) (ps : List (List ℕ)) → length image ≡ row_count g → length ps ≡ row_count g → AreMendedBelow asked image (row_count g) ps → ps ≡ pieces_of asked image
pieces_read g asked image ps rows size each = same_lists ps (pieces_of asked image) (size ∙ (sym rows ∙ sym (pieces_size asked image))) (λ k d l.
    let inside : k < length image = omega arith in
    let p : Page = get_or image k (page [] []) in
    let at : slice_get image k ≡ Some p = slice_get-get_or image k (page [] []) inside in
    let there : slice_get (pieces_of asked image) k ≡ Some (piece_to_write asked k p) = pieces_get asked image k ∙ ap (option_map (piece_to_write asked k)) at in
    get_or_default ps k d [] l ∙ (each k p (omega arith) at ∙ sym (get_or_from_slice_get (pieces_of asked image) k (piece_to_write asked k p) d there)))

pub repaired : (g : Geometry) (asked : RepairAsked) (ms : List Mend) (scratch : List ℕ) (pieces : Option (List (List ℕ))) (bytes : List ℕ) → RepairingStands g asked (row_count g) ms scratch pieces
    → IsTaken g (λ image. ShowsRepair asked (row_count g) image ms pieces) bytes → IsRepaired g asked pieces ms bytes
repaired g asked ms scratch pieces bytes stands taken =
    let image : Image = raw_image g bytes in
    let rows : length image ≡ row_count g = length-raw_image g bytes in
    let shown : ShowsRepair asked (row_count g) image ms pieces = taken.shown in
    record {
      whole = taken.whole;
      pages = if_both pieces (AreMendedOwn g asked (row_count g) ms) (AreMendedBelow asked image (row_count g)) (λ ps. ps ≡ pieces_of asked image) stands.own shown.pieces_are (λ ps own each. pieces_read g asked image ps rows own.size each);
      mends_are = shown.mends_are ∙ ap (mends_below asked image) (sym rows);
    }

-- ---- the rows asked for

listed_all : (asked : RepairAsked) (image : Image) (rows : List ℕ) → All (λ m. is_asked asked.rows m.row ≡ true) (filter_map (λ row. mend_in asked row (slice_get image row)) rows)
listed_all asked image [] = All-nil (λ (m : Mend). is_asked asked.rows m.row ≡ true)
listed_all asked image (row ∷ rows) = by (slice_get image row) (listed_all asked image rows)
  where
    rest : List Mend
    rest = filter_map (λ r. mend_in asked r (slice_get image r)) rows

    of_turn : (o : Option BitTurn) (b : Bool) → is_asked asked.rows row ≡ b → All (λ m. is_asked asked.rows m.row ≡ true) rest
        → All (λ m. is_asked asked.rows m.row ≡ true) (cons_option (option_map (as_mend row) (cond b o None)) rest)
    of_turn o false e h = h
    of_turn None true e h = h
    of_turn (Some t) true e h = All-cons (λ (m : Mend). is_asked asked.rows m.row ≡ true) (as_mend row t) rest e h

    by : (o : Option Page) → All (λ m. is_asked asked.rows m.row ≡ true) rest → All (λ m. is_asked asked.rows m.row ≡ true) (cons_option (mend_in asked row o) rest)
    by None h = h
    by (Some p) h = of_turn (page_turn_of asked.bits p) (is_asked asked.rows row) refl h

pub rows_law : RepairedRowsLaw
unfolding mends_below
rows_law g asked pieces mends bytes h = record {
  mended = λ row is. at row ∙ ap (λ b. option_map (λ p. cond b (repaired_bytes asked.bits p) (bytes_of_page p)) (slice_get image row)) is;
  kept = λ row is. at row ∙ ap (λ b. option_map (λ p. cond b (repaired_bytes asked.bits p) (bytes_of_page p)) (slice_get image row)) is;
  listed = subst (λ (ms : List Mend). All (λ m. is_asked asked.rows m.row ≡ true) ms) (sym h.mends_are) (listed_all asked image (range_with_len 0 (length image)));
}
  where
    image : Image
    image = raw_image g bytes

    at : (row : ℕ) → slice_get pieces row ≡ option_map (piece_to_write asked row) (slice_get image row)
    at row = ap (λ ps. slice_get ps row) h.pages ∙ pieces_get asked image row

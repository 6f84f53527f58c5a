-- What one page more makes of the list and of the pieces.
use Rattle.std.proofs.Common.{◌≡◌, ◌≢◌, inl, inr, ℕ, ◌+◌, ◌<◌, ◌≤◌, true, false, cond, eqb, List, [], ◌∷◌, ◌++◌, length, get_or, set, Option, Some, None, IfSome, refl, sym, ap, ◌∙◌, subst, arith, append-nil, length-append}
use Rattle.std.specs.Prelude.{All, slice_get, option_map}
use Rattle.std.specs.List.{range_with_len, filter_map, cons_option}
use Rattle.std.proofs.lemmas.Bool.{cases_eq, cases_Bool}
use Rattle.std.proofs.lemmas.Bool.Decides.{nat_tests}
use Rattle.std.proofs.lemmas.List.{get_or-set_same, get_or-set_other, length-set, map-id}
use Rattle.std.proofs.lemmas.List.Elements.{All-nil, All-push, All-weaker, All-head, All-tail}
use Rattle.std.proofs.lemmas.List.Quantifiers.{all_pairs_push}
use Rattle.std.proofs.lemmas.List.FromFn.{map-range_with_len_more}
use Rattle.std.proofs.lemmas.Option.{same_Some}
use Rattle.page_layout.specs.declared.geometry.Geometry.{Geometry}
use Rattle.page_layout.specs.Geometry.{row_count, page_bytes}
use Rattle.page_layout.specs.Page.{Page, Image}
use Rattle.lab_dump.proofs.ScanLemmas.{if_more}
use Rattle.lab_mend.specs.declared.pairs.BitTurn.{BitTurn}
use Rattle.lab_mend.specs.declared.repairing.Mend.{Mend}
use Rattle.lab_mend.specs.declared.repairing.RepairAsked.{RepairAsked}
use Rattle.lab_mend.specs.Repairing.{as_mend, turn_at, mend_in, mends_with_row, mends_below, piece_to_write, AreMendedBelow, ShowsRepair, named_turn, IsOwn, AreMendedOwn, AreMendsListed, RepairingStands}
use Rattle.lab_dump.specs.Rooms.{HasRowRoom}

-- ---- the list of an image

cons_append : (o : Option Mend) (xs ys : List Mend) → cons_option o (xs ++ ys) ≡ cons_option o xs ++ ys
cons_append None xs ys = refl
cons_append (Some m) xs ys = refl

filter_push : (h : ℕ → Option Mend) (xs : List ℕ) (y : ℕ) → filter_map h (xs ++ y ∷ []) ≡ filter_map h xs ++ cons_option (h y) []
filter_push h [] y = refl
filter_push h (x ∷ xs) y = ap (cons_option (h x)) (filter_push h xs y) ∙ cons_append (h x) (filter_map h xs) (cons_option (h y) [])

range_more : (n : ℕ) → range_with_len 0 (n + 1) ≡ range_with_len 0 n ++ n ∷ []
range_more n =
    sym (map-id (range_with_len 0 (n + 1)))
    ∙ (map-range_with_len_more (λ (k : ℕ). k) 0 n n (omega arith) ∙ ap (λ xs. xs ++ n ∷ []) (map-id (range_with_len 0 n)))

noted_is : (ms : List Mend) (row : ℕ) (o : Option BitTurn) → ms ++ cons_option (option_map (as_mend row) o) [] ≡ mends_with_row ms row o
noted_is ms row None = append-nil ms
noted_is ms row (Some t) = refl

pub mends_more : (asked : RepairAsked) (image : Image) (row : ℕ) (p : Page) → slice_get image row ≡ Some p → mends_below asked image (row + 1) ≡ mends_with_row (mends_below asked image row) row (turn_at asked row p)
unfolding mends_below
mends_more asked image row p at =
    let h : ℕ → Option Mend = λ r. mend_in asked r (slice_get image r) in
    ap (filter_map h) (range_more row)
    ∙ (filter_push h (range_with_len 0 row) row
    ∙ (ap (λ q. filter_map h (range_with_len 0 row) ++ cons_option (mend_in asked row q) []) at ∙ noted_is (filter_map h (range_with_len 0 row)) row (turn_at asked row p)))

pub mends_none : (asked : RepairAsked) (image : Image) → mends_below asked image 0 ≡ []
unfolding mends_below
mends_none asked image = refl

-- ---- what a list names of a row

differ_eqb : (a b : ℕ) → a ≢ b → eqb a b ≡ false
differ_eqb a b ne = grind (arith, nat_tests)

same_eqb : (a : ℕ) → eqb a a ≡ true
same_eqb a = grind (arith, nat_tests)

pub named_none : (ms : List Mend) (row : ℕ) → All (λ m. m.row < row) ms → named_turn ms row ≡ None
named_none [] row h = refl
named_none (m ∷ ms) row h =
    let less : m.row < row = All-head (λ (x : Mend). x.row < row) m ms h in
    let other : eqb m.row row ≡ false = differ_eqb m.row row (λ e. (omega arith)) in
    ap (λ b. cond b (Some m.turn) (named_turn ms row)) other ∙ named_none ms row (All-tail (λ (x : Mend). x.row < row) m ms h)

named_push_same : (ms : List Mend) (row : ℕ) (k : BitTurn) → named_turn ms row ≡ None → named_turn (ms ++ as_mend row k ∷ []) row ≡ Some k
named_push_same [] row k e = ap (λ b. cond b (Some k) None) (same_eqb row)
named_push_same (m ∷ ms) row k e = elim (cases_Bool (eqb m.row row)) [
  | inl is ↦ absurd (let said : Some m.turn ≡ None = sym (ap (λ b. cond b (Some m.turn) (named_turn ms row)) is) ∙ e in cc)
  | inr is ↦
      ap (λ b. cond b (Some m.turn) (named_turn (ms ++ as_mend row k ∷ []) row)) is
      ∙ named_push_same ms row k (sym (ap (λ b. cond b (Some m.turn) (named_turn ms row)) is) ∙ e)
]

named_push_other : (ms : List Mend) (row : ℕ) (k : BitTurn) (j : ℕ) → row ≢ j → named_turn (ms ++ as_mend row k ∷ []) j ≡ named_turn ms j
named_push_other [] row k j ne = ap (λ b. cond b (Some k) None) (differ_eqb row j ne)
named_push_other (m ∷ ms) row k j ne = ap (cond (eqb m.row j) (Some m.turn)) (named_push_other ms row k j ne)

pub named_same : (ms : List Mend) (row : ℕ) (o : Option BitTurn) → All (λ m. m.row < row) ms → named_turn (mends_with_row ms row o) row ≡ o
named_same ms row None h = named_none ms row h
named_same ms row (Some k) h = named_push_same ms row k (named_none ms row h)

pub named_other : (ms : List Mend) (row j : ℕ) (o : Option BitTurn) → row ≢ j → named_turn (mends_with_row ms row o) j ≡ named_turn ms j
named_other ms row j None ne = refl
named_other ms row j (Some k) ne = named_push_other ms row k j ne

-- ---- one row more

wider : (row : ℕ) (ms : List Mend) → All (λ m. m.row < row) ms → All (λ m. m.row < row + 1) ms
wider row ms h = All-weaker (λ (m : Mend). m.row < row) (λ (m : Mend). m.row < row + 1) (λ m l. (omega arith)) ms h

pub listed_noted : (ms : List Mend) (row : ℕ) (o : Option BitTurn) → AreMendsListed row ms → AreMendsListed (row + 1) (mends_with_row ms row o)
listed_noted ms row None h = record { within = wider row ms h.within; rising = h.rising }
listed_noted ms row (Some k) h =
    let m : Mend = as_mend row k in
    record {
      within = All-push (λ (x : Mend). x.row < row + 1) ms m (wider row ms h.within) (omega arith);
      rising = all_pairs_push (λ (a b : Mend). a.row < b.row) ms m h.rising h.within;
    }

pub own_noted : (g : Geometry) (asked : RepairAsked) (row : ℕ) (ms : List Mend) (o : Option BitTurn) (piece : List ℕ) (ps : List (List ℕ))
    → row < row_count g → AreMendsListed row ms → IsOwn g asked row o piece → AreMendedOwn g asked row ms ps
    → AreMendedOwn g asked (row + 1) (mends_with_row ms row o) (set ps row piece)
own_noted g asked row ms o piece ps within listed own h = record {
  size = length-set ps row piece ∙ h.size;
  each = λ j l. elim (cases_eq row j) [
    | inl same ↦
        subst (λ x. IsOwn g asked x (named_turn (mends_with_row ms row o) x) (get_or (set ps row piece) x [])) same
        (subst (λ x. IsOwn g asked row x (get_or (set ps row piece) row [])) (sym (named_same ms row o listed.within))
        (subst (λ x. IsOwn g asked row o x) (sym (get_or-set_same ps row piece [] (let size = h.size in omega arith))) own))
    | inr ne ↦
        subst (λ x. IsOwn g asked j x (get_or (set ps row piece) j [])) (sym (named_other ms row j o ne))
        (subst (λ x. IsOwn g asked j (named_turn ms j) x) (sym (get_or-set_other ps row j piece [] (λ e. ne (sym e)))) (h.each j (omega arith)))
  ];
}

pub mended_more : (asked : RepairAsked) (image : Image) (row : ℕ) (p : Page) (ps : List (List ℕ)) → slice_get image row ≡ Some p → row < length ps → AreMendedBelow asked image row ps
    → AreMendedBelow asked image (row + 1) (set ps row (piece_to_write asked row p))
mended_more asked image row p ps at inside h j q l is = elim (cases_eq row j) [
  | inl same ↦
      let page : p ≡ q = same_Some p q (sym at ∙ (ap (slice_get image) same ∙ is)) in
      ap (λ x. get_or (set ps row (piece_to_write asked row p)) x []) (sym same) ∙ (get_or-set_same ps row (piece_to_write asked row p) [] inside ∙ (ap (piece_to_write asked row) page ∙ ap (λ x. piece_to_write asked x q) same))
  | inr ne ↦ get_or-set_other ps row j (piece_to_write asked row p) [] (λ e. ne (sym e)) ∙ h j q (omega arith) is
]

if_set : (pieces : Option (List (List ℕ))) (P Q : List (List ℕ) → Type 0) (row : ℕ) (piece : List ℕ) → IfSome pieces P → ((ps : List (List ℕ)) → P ps → Q (set ps row piece)) → IfSome (option_map (λ ps. set ps row piece) pieces) Q
if_set None P Q row piece h more = tt
if_set (Some ps) P Q row piece h more = more ps h

pub stands_more : (g : Geometry) (asked : RepairAsked) (row : ℕ) (ms : List Mend) (o : Option BitTurn) (scratch : List ℕ) (pieces : Option (List (List ℕ))) → row < row_count g → RepairingStands g asked row ms scratch pieces → IsOwn g asked row o scratch
    → RepairingStands g asked (row + 1) (mends_with_row ms row o) scratch (option_map (λ ps. set ps row scratch) pieces)
stands_more g asked row ms o scratch pieces within h own = record {
  scratch_size = h.scratch_size;
  listed = listed_noted ms row o h.listed;
  own = if_set pieces (AreMendedOwn g asked row ms) (AreMendedOwn g asked (row + 1) (mends_with_row ms row o)) row scratch h.own (λ ps each. own_noted g asked row ms o scratch ps within h.listed own each);
}

both_set : (pieces : Option (List (List ℕ))) (P Q R : List (List ℕ) → Type 0) (row : ℕ) (piece : List ℕ) → IfSome pieces P → IfSome pieces Q → ((ps : List (List ℕ)) → P ps → Q ps → R (set ps row piece)) → IfSome (option_map (λ ps. set ps row piece) pieces) R
both_set None P Q R row piece p q more = tt
both_set (Some ps) P Q R row piece p q more = more ps p q

pub shows_more : (g : Geometry) (asked : RepairAsked) (row : ℕ) (image : Image) (p : Page) (ms : List Mend) (scratch : List ℕ) (pieces : Option (List (List ℕ))) → row < row_count g → RepairingStands g asked row ms scratch pieces → ShowsRepair asked row image ms pieces
    → slice_get image row ≡ Some p → scratch ≡ piece_to_write asked row p → ShowsRepair asked (row + 1) image (mends_with_row ms row (turn_at asked row p)) (option_map (λ ps. set ps row scratch) pieces)
shows_more g asked row image p ms scratch pieces within stands h at is = record {
  mends_are = ap (λ xs. mends_with_row xs row (turn_at asked row p)) h.mends_are ∙ sym (mends_more asked image row p at);
  pieces_are = both_set pieces (AreMendedOwn g asked row ms) (AreMendedBelow asked image row) (AreMendedBelow asked image (row + 1)) row scratch stands.own h.pieces_are
      (λ ps own each. subst (λ x. AreMendedBelow asked image (row + 1) (set ps row x)) (sym is) (mended_more asked image row p ps at (let size = own.size in omega arith) each));
}

pub room_more : (all rows : ℕ) (ms new : List Mend) (o : Option BitTurn) (capacity after : ℕ) → HasRowRoom all rows ms capacity → new ≡ mends_with_row ms rows o → after ≡ capacity → HasRowRoom all (rows + 1) new after
room_more all rows ms new o capacity after h is same = record { few = (let size = ap length is in let more = by o in let few = h.few in omega arith); room = (let room = h.room in omega arith) }
  where
    by : (x : Option BitTurn) → length (mends_with_row ms rows x) ≤ length ms + 1
    by None = omega arith
    by (Some t) = omega (arith, length-append ms (as_mend rows t ∷ []))

-- ---- before the first page

pub stands_first : (g : Geometry) (asked : RepairAsked) (scratch : List ℕ) (pieces : Option (List (List ℕ))) → length scratch ≡ page_bytes g → IfSome pieces (λ ps. length ps ≡ row_count g) → RepairingStands g asked 0 [] scratch pieces
stands_first g asked scratch pieces size whole = record {
  scratch_size = size;
  listed = record { within = All-nil (λ (m : Mend). m.row < 0); rising = λ i j d l k. absurd (omega arith) };
  own = if_more pieces (λ ps. length ps ≡ row_count g) (AreMendedOwn g asked 0 []) whole (λ ps all. record { size = all; each = λ row l. absurd (omega arith) });
}

pub shows_first : (asked : RepairAsked) (image : Image) (pieces : Option (List (List ℕ))) → ShowsRepair asked 0 image [] pieces
shows_first asked image pieces = record {
  mends_are = sym (mends_none asked image);
  pieces_are = all pieces;
}
  where
    all : (o : Option (List (List ℕ))) → IfSome o (AreMendedBelow asked image 0)
    all None = tt
    all (Some ps) = λ row p l is. absurd (omega arith)

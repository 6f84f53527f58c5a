-- Pages that are put into an arrangement are taken out again as they were.
use Rattle.std.proofs.Common.{◌≡◌, ℕ, zero, suc, ◌+◌, ◌-◌, ◌*◌, ◌/◌, ◌%◌, ◌<◌, ◌≤◌, Bool, true, false, cond, List, ◌++◌, length, map, get_or, None, refl, sym, ap, ◌∙◌, arith}
use Rattle.std.proofs.Common.{length-append}
use Rattle.std.specs.Prelude.{◌&&◌, nat_le, nat_lt, slice_index}
use Rattle.std.specs.Option.{unwrap_or}
use Rattle.std.specs.List.{concat, range_with_len}
use Rattle.std.proofs.Math.Nat.{div-lt_iff_lt-mul}
use Rattle.std.proofs.lemmas.Nat.{div-add-mod', mod_below}
use Rattle.std.proofs.lemmas.Bool.{and_from, le-leb, lt-ltb}
use Rattle.std.proofs.lemmas.List.{ext_get_or, get_or_append_left, get_or-append_right}
use Rattle.std.proofs.lemmas.List.FromFn.{get_or-map-range_with_len, length-map-range_with_len}
use Rattle.page_layout.specs.declared.geometry.Geometry.{Geometry}
use Rattle.page_layout.specs.Geometry.{row_count, page_bytes}
use Rattle.lab_dump.specs.Scan.{image_bytes}
use Rattle.lab_arrange.specs.declared.arrangement.Arrangement.{Arrangement}
use Rattle.lab_arrange.specs.Place.{IsFitting, byte_at, header_length, length_of, place_in_dump, value_of}
use Rattle.lab_arrange.specs.Arranged.{arranged_piece, pieces_below}
use Rattle.lab_arrange.specs.Laws.{IsOfPages, RoundTripLaw, put_byte, put_in, spot, spot_of}
use Rattle.lab_arrange.proofs.OnceLemmas.{once_law}

-- ---- pieces of one size, one behind another

pieces_size : (f : ℕ → List ℕ) (n a m : ℕ) → ((r : ℕ) → r < a + m → length (f r) ≡ n) → length (concat (map f (range_with_len a m))) ≡ m * n
pieces_size f n a zero sized = omega arith
pieces_size f n a (suc m) sized =
    let rest = pieces_size f n (a + 1) m (λ r i. sized r (omega arith)) in
    omega (arith, length-append (f a) (concat (map f (range_with_len (a + 1) m))), sized a (omega arith))

in_pieces : (f : ℕ → List ℕ) (n a m r c : ℕ) → ((k : ℕ) → k < a + m → length (f k) ≡ n) → r < m → c < n → get_or (concat (map f (range_with_len a m))) (r * n + c) 0 ≡ get_or (f (a + r)) c 0
in_pieces f n a zero r c sized row column = absurd (omega arith)
in_pieces f n a (suc m) zero c sized row column =
    let size = sized a (omega arith) in
    let first : 0 * n + c ≡ c = omega arith in
    let here : a ≡ a + 0 = omega arith in
    ap (λ k. get_or (f a ++ concat (map f (range_with_len (a + 1) m))) k 0) first ∙ (get_or_append_left (f a) (concat (map f (range_with_len (a + 1) m))) 0 c (omega (arith, size)) ∙ ap (λ k. get_or (f k) c 0) here)
in_pieces f n a (suc m) (suc r) c sized row column =
    let size = sized a (omega arith) in
    let past : suc r * n + c - n ≡ r * n + c = omega arith in
    let next : a + 1 + r ≡ a + suc r = omega arith in
    get_or-append_right (f a) (concat (map f (range_with_len (a + 1) m))) n (suc r * n + c) 0 size (omega arith)
    ∙ (ap (λ k. get_or (concat (map f (range_with_len (a + 1) m))) k 0) past ∙ (in_pieces f n (a + 1) m r c (λ k i. sized k (omega arith)) (omega arith) column ∙ ap (λ k. get_or (f k) c 0) next))

-- ---- a byte

piece_size : (g : Geometry) (a : Arrangement) (all : List ℕ) (row : ℕ) → length (arranged_piece g a all row) ≡ page_bytes g
unfolding arranged_piece
piece_size g a all row = length-map-range_with_len (λ column. byte_at a.inverted all (place_in_dump g a row column)) 0 (page_bytes g)

piece_byte : (g : Geometry) (a : Arrangement) (all : List ℕ) (row column : ℕ) → column < page_bytes g → get_or (arranged_piece g a all row) column 0 ≡ byte_at a.inverted all (place_in_dump g a row column)
unfolding arranged_piece
piece_byte g a all row column l = get_or-map-range_with_len (λ k. byte_at a.inverted all (place_in_dump g a row k)) 0 (page_bytes g) column column 0 l (omega arith)

twice : (inverted : Bool) (byte : ℕ) → byte ≤ 255 → value_of inverted (value_of inverted byte) ≡ byte
twice false byte l = refl
twice true byte l = omega arith

-- a byte that was put is found where it was put
put_byte_at : (g : Geometry) (a : Arrangement) (other : ℕ → ℕ) (raw : List ℕ) (row column : ℕ) → IsFitting g a → row < row_count g → column < page_bytes g → get_or raw (row * page_bytes g + column) 0 ≤ 255
    → byte_at a.inverted (put_in g a other raw) (place_in_dump g a row column) ≡ get_or raw (row * page_bytes g + column) 0
unfolding put_in
put_byte_at g a other raw row column fits below within byte =
    let place : ℕ = place_in_dump g a row column in
    let found = (once_law g a fits).there (spot row column) (record { row_in = below; column_in = within }) in
    let of_pages : IsOfPages g a place = found.0 in
    let behind = of_pages.behind in
    let before = of_pages.before in
    let size = header_length a + image_bytes g + unwrap_or a.tail 0 in
    let dump : List ℕ = map (put_byte g a other raw) (range_with_len 0 size) in
    let whole : length dump ≡ size = length-map-range_with_len (put_byte g a other raw) 0 size in
    let inside : place < length dump = omega (arith, whole) in
    let tests : (nat_le (header_length a) place && nat_lt place (header_length a + image_bytes g)) ≡ true = and_from (nat_le (header_length a) place) (nat_lt place (header_length a + image_bytes g)) (le-leb (header_length a) place behind) (lt-ltb place (header_length a + image_bytes g) before) in
    let back : spot_of g a place ≡ spot row column = found.1 in
    let said : put_byte g a other raw place ≡ value_of a.inverted (get_or raw (row * page_bytes g + column) 0) =
    ap (λ b. cond b (value_of a.inverted (slice_index raw ((spot_of g a place).row * page_bytes g + (spot_of g a place).column))) (other place)) tests
    ∙ ap (λ x. value_of a.inverted (slice_index raw (x.row * page_bytes g + x.column))) back in
    ap (λ b. cond b (value_of a.inverted (slice_index dump place)) 0) (lt-ltb place (length dump) inside)
    ∙ (ap (value_of a.inverted) (get_or-map-range_with_len (put_byte g a other raw) 0 size place place 0 (omega arith) (omega arith) ∙ said)
    ∙ twice a.inverted (get_or raw (row * page_bytes g + column) 0) byte)

-- ---- all

dump_size : (g : Geometry) (a : Arrangement) (other : ℕ → ℕ) (raw : List ℕ) → a.cut ≡ None → length (put_in g a other raw) ≡ length_of g a
unfolding put_in
dump_size g a other raw uncut =
    let none : unwrap_or a.cut 0 ≡ 0 = ap (λ o. unwrap_or o 0) uncut in
    let size = header_length a + image_bytes g + unwrap_or a.tail 0 in
    length-map-range_with_len (put_byte g a other raw) 0 size ∙ omega (arith, none)

pub round_trip : RoundTripLaw
round_trip g a other raw fits uncut size bytes = record {
  whole = dump_size g a other raw uncut;
  same = ext_get_or 0 (concat (pieces_below g a all rows)) raw (length_is ∙ sym size) each;
}
  where
    all : List ℕ
    all = put_in g a other raw

    rows : ℕ
    rows = row_count g

    n : ℕ
    n = page_bytes g

    f : ℕ → List ℕ
    f = arranged_piece g a all

    length_is : length (concat (map f (range_with_len 0 rows))) ≡ rows * n
    length_is = pieces_size f n 0 rows (λ r l. piece_size g a all r)

    each : (i : ℕ) → i < length (concat (map f (range_with_len 0 rows))) → get_or (concat (map f (range_with_len 0 rows))) i 0 ≡ get_or raw i 0
    each i l =
        let some : 0 < n = (let d = g.limits.data_size.least in omega arith) in
        let within : i < rows * n = omega (arith, length_is) in
        let row : i / n < rows = (div-lt_iff_lt-mul some).1 within in
        let column : i % n < n = mod_below i n some in
        let whole : i / n * n + i % n ≡ i = div-add-mod' i n in
        let byte : get_or raw (i / n * n + i % n) 0 ≤ 255 = bytes (i / n * n + i % n) 0 (omega (arith, whole, size)) in
        let here : 0 + i / n ≡ i / n = omega arith in
        ap (λ k. get_or (concat (map f (range_with_len 0 rows))) k 0) (sym whole)
        ∙ (in_pieces f n 0 rows (i / n) (i % n) (λ k j. piece_size g a all k) row column
        ∙ (ap (λ k. get_or (f k) (i % n) 0) here ∙ (piece_byte g a all (i / n) (i % n) column ∙ (put_byte_at g a other raw (i / n) (i % n) fits row column byte ∙ ap (λ k. get_or raw k 0) whole))))

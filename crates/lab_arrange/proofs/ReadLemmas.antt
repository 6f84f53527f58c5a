-- What is read of a dump, and what is taken out of it.
use Rattle.std.proofs.Common.{◌≡◌, ◌⊎◌, ℕ, ◌+◌, ◌-◌, ◌%◌, ◌<◌, ◌≤◌, min, Bool, true, false, cond, List, ◌++◌, length, map, drop, get_or, replicate, refl, sym, ap, ◌∙◌, inl, inr, arith}
use Rattle.std.proofs.Common.{length-append, length-take, length-drop}
use Rattle.std.specs.Prelude.{nat_eq, slice_index, slice_range}
use Rattle.std.specs.List.{range_with_len}
use Rattle.std.proofs.Math.Seq.{drop-append-add}
use Rattle.std.proofs.lemmas.Bool.{cases_lt, lt-ltb, le-ltb}
use Rattle.std.proofs.lemmas.Nat.{mod_below}
use Rattle.std.proofs.lemmas.List.{ext_get_or, get_or-map, get_or-take, get_or-drop, get_or-replicate, get_or_append_left, get_or-append_right, length-map, length-replicate}
use Rattle.std.proofs.lemmas.List.FromFn.{get_or-map-range_with_len, length-map-range_with_len}
use Rattle.page_layout.specs.declared.geometry.Geometry.{Geometry}
use Rattle.lab_arrange.specs.declared.arrangement.Arrangement.{Arrangement}
use Rattle.lab_arrange.specs.Place.{body_place, byte_at, header_length, other_in_pair, place_in_dump, swapped_place, value_of}
use Rattle.lab_arrange.specs.Reading.{area_from, bytes_from, taken_from}
use Rattle.lab_arrange.specs.Arranged.{arranged_piece, spare_at}
use Rattle.lab_arrange.proofs.PlaceLemmas.{body_data, body_spare}

-- ---- lists by their places

-- a list with these numbers in its places
pub by_places : (f : ℕ → ℕ) (n : ℕ) (xs : List ℕ) → length xs ≡ n → ((i : ℕ) → i < n → get_or xs i 0 ≡ f i) → xs ≡ map f (range_with_len 0 n)
by_places f n xs size at =
    ext_get_or 0 xs (map f (range_with_len 0 n)) (size ∙ sym (length-map-range_with_len f 0 n))
    (λ i l. at i (omega (arith, size)) ∙ sym (get_or-map-range_with_len f 0 n i i 0 (omega (arith, size)) (omega arith)))

pub place_of_map : (f : ℕ → ℕ) (n i : ℕ) → i < n → get_or (map f (range_with_len 0 n)) i 0 ≡ f i
place_of_map f n i l = get_or-map-range_with_len f 0 n i i 0 l (omega arith)

-- each number of a list by its place
pub map_places : (f : ℕ → ℕ) (xs ys : List ℕ) → length ys ≡ length xs → ((i : ℕ) → i < length xs → get_or ys i 0 ≡ f (get_or xs i 0)) → ys ≡ map f xs
map_places f xs ys size at =
    ext_get_or 0 ys (map f xs) (size ∙ sym (length-map xs f)) (λ i l. at i (omega (arith, size)) ∙ sym (get_or-map f xs i 0 0 (omega (arith, size))))

-- ---- bytes that are read

range_size : (all : List ℕ) (at there : ℕ) → at + there ≤ length all → length (slice_range all at (at + there)) ≡ there
range_size all at there l = omega (arith, length-take (at + there - at) (drop at all), length-drop at all)

found_at : (inverted : Bool) (all : List ℕ) (at there i : ℕ) → at + there ≤ length all → i < there → get_or (map (value_of inverted) (slice_range all at (at + there))) i 0 ≡ byte_at inverted all (at + i)
found_at inverted all at there i l below =
    let size = range_size all at there l in
    get_or-map (value_of inverted) (slice_range all at (at + there)) i 0 0 (omega (arith, size))
    ∙ (ap (value_of inverted) (get_or-take (at + there - at) (drop at all) i 0 (omega arith) ∙ get_or-drop at all i 0)
    ∙ sym (ap (λ b. cond b (value_of inverted (slice_index all (at + i))) 0) (lt-ltb (at + i) (length all) (omega arith))))

pub missing_at : (inverted : Bool) (all : List ℕ) (place : ℕ) → length all ≤ place → 0 ≡ byte_at inverted all place
missing_at inverted all place l = sym (ap (λ b. cond b (value_of inverted (slice_index all place)) 0) (le-ltb place (length all) l))

-- those that a dump has, and 00h bytes for the others
pub bytes_whole : (inverted : Bool) (all : List ℕ) (size at n there : ℕ) (found missing : List ℕ) → size ≡ length all → there ≡ min (size - at) n → (0 < there → found ≡ map (value_of inverted) (slice_range all at (at + there))) → length found ≡ there
    → missing ≡ replicate (n - there) 0 → found ++ missing ≡ bytes_from inverted all at n
unfolding bytes_from
bytes_whole inverted all size at n there found missing all_of some front counted rest =
    by_places (λ i. byte_at inverted all (at + i)) n (found ++ missing) whole each
  where
    behind : length missing ≡ n - there
    behind = ap length rest ∙ length-replicate (n - there) 0

    whole : length (found ++ missing) ≡ n
    whole = omega (arith, length-append found missing, behind)

    each : (i : ℕ) → i < n → get_or (found ++ missing) i 0 ≡ byte_at inverted all (at + i)
    each i below = by (cases_lt i there)
      where
        by : (i < there) ⊎ (there ≤ i) → get_or (found ++ missing) i 0 ≡ byte_at inverted all (at + i)
        by (inl l) =
            get_or_append_left found missing 0 i (omega arith) ∙ (ap (λ xs. get_or xs i 0) (front (omega arith)) ∙ found_at inverted all at there i (omega arith) l)
        by (inr l) =
            get_or-append_right found missing there i 0 counted l ∙ (ap (λ xs. get_or xs (i - there) 0) rest ∙ (get_or-replicate (n - there) (i - there) 0 0 (omega arith) ∙ missing_at inverted all (at + i) (omega arith)))

-- ---- an area

-- the other byte of a pair
pub pair_first : (n : ℕ) → n % 2 ≡ 0 → other_in_pair n ≡ n + 1
pair_first n e = ap (λ m. cond (nat_eq m 0) (n + 1) (n - 1)) e

pub pair_second : (n : ℕ) → n % 2 ≡ 1 → other_in_pair n ≡ n - 1
pair_second n e = ap (λ m. cond (nat_eq m 0) (n + 1) (n - 1)) e

pub even_or_odd : (n : ℕ) → (n % 2 ≡ 0) ⊎ (n % 2 ≡ 1)
even_or_odd n = elim (cases_lt (n % 2) 1) [
  | inl l ↦ inl (omega arith)
  | inr l ↦ inr (let two : n % 2 < 2 = mod_below n 2 (omega arith) in omega arith)
]

-- the pairs behind an even number of bytes are those behind it
pair_even : (even k : ℕ) → even % 2 ≡ 0 → other_in_pair (even + k) ≡ even + other_in_pair k
pair_even even k e = by (even_or_odd k)
  where
    by : (k % 2 ≡ 0) ⊎ (k % 2 ≡ 1) → other_in_pair (even + k) ≡ even + other_in_pair k
    by (inl z) =
        let there : (even + k) % 2 ≡ 0 = omega arith in
        let a = pair_first (even + k) there in
        let b = pair_first k z in
        omega (arith, a, b)
    by (inr z) =
        let there : (even + k) % 2 ≡ 1 = omega arith in
        let a = pair_second (even + k) there in
        let b = pair_second k z in
        omega (arith, a, b)

swapped_even : (swapped : Bool) (even k : ℕ) → even % 2 ≡ 0 → swapped_place swapped (even + k) ≡ even + swapped_place swapped k
swapped_even false even k e = refl
swapped_even true even k e = pair_even even k e

pub pair_le : (k : ℕ) → other_in_pair k ≤ k + 1
pair_le k = by (even_or_odd k)
  where
    by : (k % 2 ≡ 0) ⊎ (k % 2 ≡ 1) → other_in_pair k ≤ k + 1
    by (inl z) = (let a = pair_first k z in omega (arith, a))
    by (inr z) = (let a = pair_second k z in omega (arith, a))

pub swapped_le : (swapped : Bool) (k : ℕ) → swapped_place swapped k ≤ k + 1
swapped_le false k = omega arith
swapped_le true k = pair_le k

pub taken_is : (swapped : Bool) (raw area : List ℕ) (lead n : ℕ) → length area ≡ n → ((i : ℕ) → i < n → get_or area i 0 ≡ get_or raw (swapped_place swapped (lead + i)) 0) → area ≡ taken_from swapped raw lead n
unfolding taken_from
taken_is swapped raw area lead n size at = by_places (λ i. slice_index raw (swapped_place swapped (lead + i))) n area size at

-- the bytes of an area, out of those that were read from the pair on in which it begins
pub area_is : (swapped inverted : Bool) (all : List ℕ) (header at n lead first count : ℕ) (raw area : List ℕ) → lead ≡ at % 2 → first ≡ header + (at - at % 2) → lead + n < count
    → raw ≡ bytes_from inverted all first count → area ≡ taken_from swapped raw lead n → area ≡ area_from header swapped inverted all at n
unfolding bytes_from taken_from area_from
area_is swapped inverted all header at n lead first count raw area lead_is first_is room read taken =
    taken ∙ sym (by_places_same (λ i. byte_at inverted all (header + swapped_place swapped (at + i))) (λ i. slice_index raw (swapped_place swapped (lead + i))) n each)
  where
    by_places_same : (f h : ℕ → ℕ) (k : ℕ) → ((i : ℕ) → i < k → h i ≡ f i) → map f (range_with_len 0 k) ≡ map h (range_with_len 0 k)
    by_places_same f h k same = sym (by_places f k (map h (range_with_len 0 k)) (length-map-range_with_len h 0 k) (λ i l. place_of_map h k i l ∙ same i l))

    each : (i : ℕ) → i < n → slice_index raw (swapped_place swapped (lead + i)) ≡ byte_at inverted all (header + swapped_place swapped (at + i))
    each i l =
        let even : ℕ = at - at % 2 in
        let is_even : even % 2 ≡ 0 = omega arith in
        let most = swapped_le swapped (lead + i) in
        let k = swapped_place swapped (lead + i) in
        let pairs : swapped_place swapped (even + (lead + i)) ≡ even + k = swapped_even swapped even (lead + i) is_even in
        let place : even + (lead + i) ≡ at + i = omega arith in
        let stands : first + k ≡ header + swapped_place swapped (at + i) = omega (arith, pairs, ap (swapped_place swapped) place) in
        ap (λ xs. get_or xs k 0) read ∙ (place_of_map (λ j. byte_at inverted all (first + j)) count k (omega arith) ∙ ap (byte_at inverted all) stands)

-- ---- a page

-- its two areas, each read from where it begins
pub page_is : (g : Geometry) (a : Arrangement) (all : List ℕ) (row here there : ℕ) (body tail : List ℕ) → here ≡ body_place g a row 0 → there ≡ body_place g a row g.data_bytes
    → body ≡ area_from (header_length a) a.swapped a.inverted all here g.data_bytes → tail ≡ area_from (header_length a) a.swapped a.inverted all there g.spare_bytes → body ++ tail ≡ arranged_piece g a all row
unfolding arranged_piece place_in_dump area_from
page_is g a all row here there body tail here_is there_is first second = by_places f (d + s) (body ++ tail) whole each
  where
    d : ℕ
    d = g.data_bytes

    s : ℕ
    s = g.spare_bytes

    f : ℕ → ℕ
    f column = byte_at a.inverted all (header_length a + swapped_place a.swapped (body_place g a row column))

    at_place : ℕ → ℕ
    at_place k = byte_at a.inverted all (header_length a + swapped_place a.swapped k)

    front : length body ≡ d
    front = ap length first ∙ length-map-range_with_len (λ i. at_place (here + i)) 0 d

    back : length tail ≡ s
    back = ap length second ∙ length-map-range_with_len (λ i. at_place (there + i)) 0 s

    whole : length (body ++ tail) ≡ d + s
    whole = omega (arith, length-append body tail, front, back)

    each : (i : ℕ) → i < d + s → get_or (body ++ tail) i 0 ≡ f i
    each i below = by (cases_lt i d)
      where
        by : (i < d) ⊎ (d ≤ i) → get_or (body ++ tail) i 0 ≡ f i
        by (inl l) =
            let place : here + i ≡ body_place g a row i = omega (arith, here_is, body_data g a row i l) in
            get_or_append_left body tail 0 i (omega (arith, front)) ∙ (ap (λ xs. get_or xs i 0) first ∙ (place_of_map (λ k. at_place (here + k)) d i l ∙ ap at_place place))
        by (inr l) =
            let column : d + (i - d) ≡ i = omega arith in
            let next = body_spare g a row (i - d) in
            let place : there + (i - d) ≡ body_place g a row i = omega (arith, there_is) ∙ (sym next ∙ ap (body_place g a row) column) in
            get_or-append_right body tail d i 0 front l ∙ (ap (λ xs. get_or xs (i - d) 0) second ∙ (place_of_map (λ k. at_place (there + k)) s (i - d) (omega arith) ∙ ap at_place place))

-- its spare area alone
pub spare_is : (g : Geometry) (a : Arrangement) (all : List ℕ) (row there : ℕ) (tail : List ℕ) → there ≡ body_place g a row g.data_bytes → tail ≡ area_from (header_length a) a.swapped a.inverted all there g.spare_bytes
    → tail ≡ spare_at g a all row
unfolding area_from
spare_is g a all row there tail there_is second =
    let body : List ℕ = area_from (header_length a) a.swapped a.inverted all (body_place g a row 0) g.data_bytes in
    let front : length body ≡ g.data_bytes = length-map-range_with_len (λ i. byte_at a.inverted all (header_length a + swapped_place a.swapped (body_place g a row 0 + i))) 0 g.data_bytes in
    let at : length body + 0 ≡ g.data_bytes = omega (arith, front) in
    let whole = page_is g a all row (body_place g a row 0) there body tail refl there_is refl second in
    sym (drop-append-add body tail 0) ∙ (ap (λ n. drop n (body ++ tail)) at ∙ ap (drop g.data_bytes) whole)

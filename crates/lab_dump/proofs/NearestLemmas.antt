-- What can be read at a byte of a dump, and which one is the nearest.
use Rattle.std.proofs.Common.{◌≡◌, ◌⊎◌, inl, inr, ℕ, zero, suc, ◌+◌, ◌-◌, ◌<◌, ◌≤◌, List, [], ◌++◌, length, take, drop, Option, Some, None}
use Rattle.std.proofs.Common.{Bool, true, false, refl, sym, ap, ◌∙◌, subst, arith, cond}
use Rattle.std.specs.Prelude.{◌==◌, ◌&&◌, ◌||◌, not, nat_le, slice_index, slice_range, option_map}
use Rattle.std.proofs.lemmas.Bool.{and_from, and_left, and_parts, and_right, or_cases, or_from, or_left, or_right, cases_lt, eqb-true, leb-true, le-leb, lt-leb}
use Rattle.std.proofs.lemmas.List.{append_assoc, append-nil, drop_at, drop-drop, drop-take, get_or_append_left, get_or-drop, get_or-take, length-append, length-drop, length-take, take_all, take_at, take-append-drop, take-append-le, take-take}
use Rattle.lab_dump.proofs.SaidLemmas.{spelled_head}
use Rattle.byteorder.specs.Endian.{little_number}
use Rattle.page_layout.specs.declared.record.Kind.{Kind}
use Rattle.page_layout.specs.declared.record.Record.{Record}
use Rattle.page_layout.specs.Sound.{has_form, has_version, is_filled, kind_from, record_in, seal_end, seal_size, spelled}
use Rattle.lab_dump.specs.declared.nearest.Legible.{Legible}
use Rattle.lab_dump.specs.Nearest.{HasBehind, IsNearest, IsNoLater, LegibleLaw, NearestLaw, NoneLegibleLaw, is_settled, is_table, legible, nearer, nearest_below, nearest_of, legible_at, read_at}

-- ---- one record

seal_least : (version : ℕ) → 8 ≤ seal_size version
seal_least version = by (version == 2)
  where
    by : (b : Bool) → 8 ≤ cond b 16 8
    by true = omega arith
    by false = omega arith

seal_most : (version : ℕ) → seal_size version ≤ 16
seal_most version = by (version == 2)
  where
    by : (b : Bool) → cond b 16 8 ≤ 16
    by true = omega arith
    by false = omega arith

end_least : (bytes : List ℕ) → 32 ≤ seal_end bytes
end_least bytes = (let l = seal_least (slice_index bytes 2) in omega arith)

end_most : (bytes : List ℕ) → seal_end bytes ≤ 40
end_most bytes = (let l = seal_most (slice_index bytes 2) in omega arith)

-- of fewer bytes than those of a spare area none can be read
pub few_legible : (bytes : List ℕ) → length bytes < 32 → legible bytes ≡ None
few_legible bytes few =
    ap (λ b. cond b (spelled (take (seal_end bytes) bytes)) None) (lt-leb (seal_end bytes) (length bytes) (let l = end_least bytes in omega arith))

no_form : (s : List ℕ) → has_form s ≡ false → spelled s ≡ None
unfolding spelled
no_form s e = ap (λ b. cond b (option_map (record_in s) (kind_from (slice_index s 3))) None) e

no_version : (s : List ℕ) → (slice_index s 2 == 1) ≡ false → (slice_index s 2 == 2) ≡ false → spelled s ≡ None
no_version s one two =
    no_form s (and_left (is_filled (take 2 s) && has_version s && is_filled (slice_range s 20 24)) (is_filled (slice_range s (seal_end s) (length s)))
    (and_left (is_filled (take 2 s) && has_version s) (is_filled (slice_range s 20 24))
    (and_right (is_filled (take 2 s)) (has_version s)
    (or_from (slice_index s 2 == 1) ((slice_index s 2 == 2) && nat_le 40 (length s)) one (and_left (slice_index s 2 == 2) (nat_le 40 (length s)) two)))))

-- none can be read where no version stands
pub unnamed_legible : (bytes : List ℕ) → (slice_index bytes 2 == 1) ≡ false → (slice_index bytes 2 == 2) ≡ false → legible bytes ≡ None
unnamed_legible bytes one two =
    let e : ℕ = seal_end bytes in
    let same : slice_index (take e bytes) 2 ≡ slice_index bytes 2 = get_or-take e bytes 2 0 (let l = end_least bytes in omega arith) in
    by (nat_le e (length bytes)) (no_version (take e bytes) (ap (λ v. v == 1) same ∙ one) (ap (λ v. v == 2) same ∙ two))
  where
    by : (b : Bool) → spelled (take (seal_end bytes) bytes) ≡ None → cond b (spelled (take (seal_end bytes) bytes)) None ≡ None
    by true none = none
    by false none = refl

-- what can be read at the front of forty bytes can be read at the front of more, and the other way round
pub legible_take : (bytes : List ℕ) (n : ℕ) → 40 ≤ n → legible (take n bytes) ≡ legible bytes
legible_take bytes n many =
    let same : slice_index (take n bytes) 2 ≡ slice_index bytes 2 = get_or-take n bytes 2 0 (omega arith) in
    let ends : seal_end (take n bytes) ≡ seal_end bytes = ap (λ v. 24 + seal_size v) same in
    let whole : nat_le (seal_end bytes) (length (take n bytes)) ≡ nat_le (seal_end bytes) (length bytes) = room (seal_end bytes) (end_most bytes) in
    let front : take (seal_end bytes) (take n bytes) ≡ take (seal_end bytes) bytes = take-take (seal_end bytes) n bytes (let l = end_most bytes in omega arith) in
    ap (λ e. cond (nat_le e (length (take n bytes))) (spelled (take e (take n bytes))) None) ends
    ∙ (ap (λ b. cond b (spelled (take (seal_end bytes) (take n bytes))) None) whole ∙ ap (λ t. cond (nat_le (seal_end bytes) (length bytes)) (spelled t) None) front)
  where
    room : (e : ℕ) → e ≤ 40 → nat_le e (length (take n bytes)) ≡ nat_le e (length bytes)
    room e few = elim (cases_lt (length bytes) e) [
      | inl short ↦ lt-leb e (length (take n bytes)) (omega (arith, length-take n bytes)) ∙ sym (lt-leb e (length bytes) short)
      | inr long ↦ le-leb e (length (take n bytes)) (omega (arith, length-take n bytes)) ∙ sym (le-leb e (length bytes) long)
    ]

-- what can be read at a place of bytes that stand in a dump can be read there in the dump
pub legible_within : (all : List ℕ) (first places : ℕ) (bytes : List ℕ) (place : ℕ) → HasBehind all first places bytes → place < places → places ≤ length bytes → legible (drop place bytes) ≡ legible (drop (first + place) all)
legible_within all first places bytes place h less within =
    let rest : ℕ = length bytes - place in
    let size : first + length bytes - first ≡ place + rest = omega arith in
    let here : drop place bytes ≡ take rest (drop place (drop first all)) =
    ap (drop place) (h.bytes_are ∙ ap (λ n. take n (drop first all)) size) ∙ drop-take place rest (drop first all) in
    let there : drop place (drop first all) ≡ drop (first + place) all = drop-drop place first all in
    ap legible (here ∙ ap (take rest) there) ∙ elim h.behind [
      | inl end ↦ ap legible (take_all rest (drop (first + place) all) (omega (arith, length-drop (first + place) all)))
      | inr behind ↦ legible_take (drop (first + place) all) rest (omega arith)
    ]

-- ---- the nearest one so far

pub nearer_none : (o : Option Legible) → nearer o None ≡ o
nearer_none None = refl
nearer_none (Some x) = refl

-- one byte more
pub nearest_more : (all : List ℕ) (n : ℕ) → nearest_below all (n + 1) ≡ nearer (nearest_below all n) (read_at all n)
unfolding nearest_below
nearest_more all n = (let e : n + 1 ≡ suc n = omega arith in ap (nearest_below all) e)

-- at which none can be read
pub nearest_less : (all : List ℕ) (n : ℕ) → legible (drop n all) ≡ None → nearest_below all (n + 1) ≡ nearest_below all n
nearest_less all n none = nearest_more all n ∙ (ap (λ o. nearer (nearest_below all n) (legible_at n o)) none ∙ nearer_none (nearest_below all n))

-- one of a table page is the nearest one for good
pub table_stays : (all : List ℕ) (n more : ℕ) (x : Legible) → nearest_below all n ≡ Some x → is_table x ≡ true → nearest_below all (n + more) ≡ Some x
unfolding nearest_below
table_stays all n zero x is table = (let e : n + 0 ≡ n = omega arith in ap (nearest_below all) e ∙ is)
table_stays all n (suc more) x is table =
    let e : n + suc more ≡ suc (n + more) = omega arith in
    ap (nearest_below all) e ∙ (ap (λ o. nearer o (read_at all (n + more))) (table_stays all n more x is table) ∙ by (read_at all (n + more)))
  where
    by : (o : Option Legible) → nearer (Some x) o ≡ Some x
    by None = refl
    by (Some y) = ap (λ b. cond (is_table y && not b) (Some y) (Some x)) table ∙ both (is_table y)
      where
        both : (b : Bool) → cond (b && false) (Some y) (Some x) ≡ Some x
        both true = refl
        both false = refl

-- ---- the laws

some_cond : (b : Bool) (x : Option Record) (r : Record) → cond b x None ≡ Some r → (b ≡ true) × (x ≡ Some r)
some_cond true x r e = (refl, e)
some_cond false x r e = absurd (let clash : None ≡ Some r = e in cc)

-- what a version needs of the length of a spare area it has where the area ends with its seal
version_room : (v n : ℕ) → ((v == 1) || ((v == 2) && nat_le 40 n)) ≡ true → ((v == 1) || ((v == 2) && nat_le 40 (24 + seal_size v + 0))) ≡ true
version_room v n h = elim (or_cases (v == 1) ((v == 2) && nat_le 40 n) h) [
  | inl one ↦ or_left (v == 1) ((v == 2) && nat_le 40 (24 + seal_size v + 0)) one
  | inr two ↦
      let named : (v == 2) ≡ true = (and_parts (v == 2) (nat_le 40 n) two).0 in
      let size : seal_size v ≡ 16 = ap (λ b. cond b 16 8) named in
      or_right (v == 1) ((v == 2) && nat_le 40 (24 + seal_size v + 0)) (and_from (v == 2) (nat_le 40 (24 + seal_size v + 0)) named (le-leb 40 (24 + seal_size v + 0) (omega (arith, size))))
]

end_within : (s : List ℕ) → 32 ≤ length s → has_version s ≡ true → seal_end s ≤ length s
end_within s many h = elim (or_cases (slice_index s 2 == 1) ((slice_index s 2 == 2) && nat_le 40 (length s)) h) [
  | inl one ↦ (let size : seal_size (slice_index s 2) ≡ 8 = ap seal_size (eqb-true (slice_index s 2) 1 one) in omega arith)
  | inr two ↦ (let long = leb-true 40 (length s) (and_parts (slice_index s 2 == 2) (nat_le 40 (length s)) two).1 in let l = end_most s in omega arith)
]

nothing_filled : is_filled [] ≡ true
unfolding is_filled
nothing_filled = refl

-- what a spare area spells is spelled by what stands in it up to the end of its seal
head_spells : (head seal rest : List ℕ) (r : Record) → length head ≡ 24 → length seal ≡ seal_size (slice_index head 2) → spelled (head ++ (seal ++ rest)) ≡ Some r → spelled (head ++ (seal ++ [])) ≡ Some r
head_spells head seal rest r h k e =
    let f : Bool = is_filled (take 2 head) in
    let v : ℕ = slice_index head 2 in
    let room : ℕ → Bool = λ n. (v == 1) || ((v == 2) && nat_le 40 n) in
    let gap : Bool = is_filled (slice_range head 20 24) in
    let n : ℕ = 24 + seal_size v + length rest in
    let says : Kind → Record = λ k. record { kind = k; number = little_number 4 (slice_range head 4 8); sequence = little_number 8 (slice_range head 8 16); wear = little_number 4 (slice_range head 16 20) } in
    let whole = some_cond (((f && room n) && gap) && is_filled rest) _ r (sym (spelled_head head seal rest h k) ∙ e) in
    let before = (and_parts ((f && room n) && gap) (is_filled rest) whole.0).0 in
    let front = (and_parts (f && room n) gap before).0 in
    let short : (((f && room (24 + seal_size v + 0)) && gap) && is_filled []) ≡ true =
    and_from ((f && room (24 + seal_size v + 0)) && gap) (is_filled [])
    (and_from (f && room (24 + seal_size v + 0)) gap (and_from f (room (24 + seal_size v + 0)) (and_parts f (room n) front).0 (version_room v n (and_parts f (room n) front).1)) (and_parts (f && room n) gap before).1)
    nothing_filled in
    spelled_head head seal [] h k ∙ (ap (λ b. cond b (option_map says (kind_from (slice_index head 3))) None) short ∙ whole.1)

spelled_form : (s : List ℕ) (r : Record) → spelled s ≡ Some r → has_form s ≡ true
unfolding spelled
spelled_form s r e = (some_cond (has_form s) (option_map (record_in s) (kind_from (slice_index s 3))) r e).0

spelled_version : (s : List ℕ) (r : Record) → spelled s ≡ Some r → has_version s ≡ true
spelled_version s r e =
    let f : Bool = is_filled (take 2 s) in
    let gap : Bool = is_filled (slice_range s 20 24) in
    (and_parts f (has_version s) (and_parts (f && has_version s) gap (and_parts (f && has_version s && gap) (is_filled (slice_range s (seal_end s) (length s))) (spelled_form s r e)).0).0).1

spelled_front : (s : List ℕ) (r : Record) → 32 ≤ length s → spelled s ≡ Some r → spelled (take (seal_end s) s) ≡ Some r
spelled_front s r many e =
    let within = end_within s many (spelled_version s r e) in
    let head : List ℕ = take 24 s in
    let version : slice_index head 2 ≡ slice_index s 2 = get_or-take 24 s 2 0 (omega arith) in
    let size : ℕ = seal_size (slice_index s 2) in
    let seal : List ℕ = take size (drop 24 s) in
    let rest : List ℕ = drop size (drop 24 s) in
    let parts : head ++ (seal ++ rest) ≡ s = ap (λ t. head ++ t) (take-append-drop size (drop 24 s)) ∙ take-append-drop 24 s in
    let head_size : length head ≡ 24 = omega (arith, length-take 24 s) in
    let plain : length seal ≡ size = omega (arith, length-take size (drop 24 s), length-drop 24 s) in
    let seal_is : length seal ≡ seal_size (slice_index head 2) = plain ∙ ap seal_size (sym version) in
    let both : length (head ++ seal) ≡ seal_end s = omega (arith, length-append head seal) in
    let front : take (seal_end s) s ≡ head ++ (seal ++ []) =
    ap (take (seal_end s)) (sym parts ∙ sym (append_assoc head seal rest)) ∙ (take_at (head ++ seal) rest (seal_end s) both ∙ ap (λ t. head ++ t) (sym (append-nil seal))) in
    ap spelled front ∙ head_spells head seal rest r head_size seal_is (ap spelled parts ∙ e)

front_legible : (spare behind : List ℕ) (r : Record) → 32 ≤ length spare → spelled spare ≡ Some r → legible (spare ++ behind) ≡ Some r
front_legible spare behind r many e =
    let within = end_within spare many (spelled_version spare r e) in
    let s : List ℕ = spare ++ behind in
    let ends : seal_end s ≡ seal_end spare = ap (λ v. 24 + seal_size v) (get_or_append_left spare behind 0 2 (omega arith)) in
    let whole : nat_le (seal_end s) (length s) ≡ true = le-leb (seal_end s) (length s) (omega (arith, length-append spare behind)) in
    let front : take (seal_end s) s ≡ take (seal_end spare) spare = ap (λ n. take n s) ends ∙ take-append-le (seal_end spare) spare behind within in
    ap (λ b. cond b (spelled (take (seal_end s) s)) None) whole ∙ (ap spelled front ∙ spelled_front spare r many e)

pub legible_law : LegibleLaw
legible_law before spare behind r many e =
    ap (legible_at (length before)) (ap legible (drop_at before (spare ++ behind) (length before) refl) ∙ front_legible spare behind r many e)

-- nothing can be read behind the last byte
past_none : (all : List ℕ) (at : ℕ) → length all ≤ at → read_at all at ≡ None
past_none all at past = ap (legible_at at) (few_legible (drop at all) (omega (arith, length-drop at all)))

pub read_within : (all : List ℕ) (at : ℕ) (x : Legible) → read_at all at ≡ Some x → at < length all
read_within all at x e = elim (cases_lt at (length all)) [
  | inl less ↦ less
  | inr past ↦ absurd (let none = past_none all at past in let clash : None ≡ Some x = sym none ∙ e in cc)
]

place_is : (all : List ℕ) (at : ℕ) (x : Legible) → read_at all at ≡ Some x → x.at ≡ at
place_is all at x e = by (legible (drop at all)) e
  where
    by : (o : Option Record) → legible_at at o ≡ Some x → x.at ≡ at
    by None h = absurd (let clash : None ≡ Some x = h in cc)
    by (Some r) h = (let same : Some (record { at = at; says = r }) ≡ Some x = h in cc)

-- what is so of the nearest one of the first bytes
abbrev pub IsNearestBelow : List ℕ → ℕ → Option Legible → Type 0
IsNearestBelow all n None = (at : ℕ) → at < n → read_at all at ≡ None
IsNearestBelow all n (Some x) = (x.at < n) × (read_at all x.at ≡ Some x) × ((y : Legible) → y.at < n → read_at all y.at ≡ Some y → IsNoLater x y)

no_later_self : (x : Legible) → IsNoLater x x
no_later_self x = record { table = λ t. t; byte = λ e. omega arith }

-- one more that can be read, at a later byte
step_some : (all : List ℕ) (n : ℕ) (best next : Legible) → next.at ≡ n → read_at all n ≡ Some next → IsNearestBelow all n (Some best) → IsNearestBelow all (n + 1) (nearer (Some best) (Some next))
step_some all n best next place read h = by (is_table next) (is_table best) refl refl
  where
    behind : (y : Legible) → y.at < n + 1 → (y.at < n) ⊎ (y.at ≡ n)
    behind y less = elim (cases_lt y.at n) [ inl l ↦ inl l | inr le ↦ inr (omega arith) ]

    same : (y : Legible) → y.at ≡ n → read_at all y.at ≡ Some y → y ≡ next
    same y e r = (let a : read_at all n ≡ Some y = ap (read_at all) (sym e) ∙ r in let both : Some y ≡ Some next = sym a ∙ read in cc)

    stays : (is_table next ≡ true → is_table best ≡ true) → IsNearestBelow all (n + 1) (Some best)
    stays table = (
      omega (arith, h.0),
      h.1,
      λ y less r. elim (behind y less) [
        | inl before ↦ h.2 y before r
        | inr here ↦ subst (IsNoLater best) (sym (same y here r)) (record { table = table; byte = λ e. (let l = h.0 in omega arith) })
      ],
    )

    goes : is_table next ≡ true → is_table best ≡ false → IsNearestBelow all (n + 1) (Some next)
    goes table other = (
      omega arith,
      ap (read_at all) place ∙ read,
      λ y less r. elim (behind y less) [
        | inl before ↦ record { table = λ t. table; byte = λ e. absurd (let first = (h.2 y before r).table (sym e ∙ table) in let clash : false ≡ true = sym other ∙ first in cc) }
        | inr here ↦ subst (IsNoLater next) (sym (same y here r)) (no_later_self next)
      ],
    )

    by : (a b : Bool) → is_table next ≡ a → is_table best ≡ b → IsNearestBelow all (n + 1) (nearer (Some best) (Some next))
    by true true p q = subst (IsNearestBelow all (n + 1)) (sym (ap (λ t. cond (t && not (is_table best)) (Some next) (Some best)) p ∙ ap (λ t. cond (true && not t) (Some next) (Some best)) q)) (stays (λ t. q))
    by true false p q = subst (IsNearestBelow all (n + 1)) (sym (ap (λ t. cond (t && not (is_table best)) (Some next) (Some best)) p ∙ ap (λ t. cond (true && not t) (Some next) (Some best)) q)) (goes p q)
    by false b p q = subst (IsNearestBelow all (n + 1)) (sym (ap (λ t. cond (t && not (is_table best)) (Some next) (Some best)) p)) (stays (λ t. absurd (let clash : false ≡ true = sym p ∙ t in cc)))

step : (all : List ℕ) (n : ℕ) (o found : Option Legible) → read_at all n ≡ found → IsNearestBelow all n o → IsNearestBelow all (n + 1) (nearer o found)
step all n None None read h = λ at less. elim (cases_lt at n) [
  | inl before ↦ h at before
  | inr le ↦ (let here : at ≡ n = omega arith in ap (read_at all) here ∙ read)
]
step all n None (Some next) read h =
    let place : next.at ≡ n = place_is all n next read in (
      omega arith,
      ap (read_at all) place ∙ read,
      λ y less r. elim (cases_lt y.at n) [
        | inl before ↦ absurd (let none = h y.at before in let clash : None ≡ Some y = sym none ∙ r in cc)
        | inr le ↦ (let here : y.at ≡ n = omega arith in let a : read_at all n ≡ Some y = ap (read_at all) (sym here) ∙ r in let both : Some next ≡ Some y = sym read ∙ a in subst (IsNoLater next) (let e : next ≡ y = cc in e) (no_later_self next))
      ],
    )
step all n (Some best) None read h = (
  omega (arith, h.0),
  h.1,
  λ y less r. elim (cases_lt y.at n) [
    | inl before ↦ h.2 y before r
    | inr le ↦ absurd (let here : y.at ≡ n = omega arith in let a : read_at all n ≡ Some y = ap (read_at all) (sym here) ∙ r in let clash : None ≡ Some y = sym read ∙ a in cc)
  ],
)
step all n (Some best) (Some next) read h = step_some all n best next (place_is all n next read) read h

pub nearest_is : (all : List ℕ) (n : ℕ) → IsNearestBelow all n (nearest_below all n)
unfolding nearest_below
nearest_is all zero = λ at less. absurd (omega (arith, less))
nearest_is all (suc n) =
    let e : n + 1 ≡ suc n = omega arith in
    subst (λ m. IsNearestBelow all m (nearer (nearest_below all n) (read_at all n))) e (step all n (nearest_below all n) (read_at all n) refl (nearest_is all n))

from_nearest : (all : List ℕ) (x : Legible) → nearest_of all ≡ Some x → IsNearest all x
from_nearest all x e =
    let h = subst (IsNearestBelow all (length all)) e (nearest_is all (length all)) in
    record { read = h.1; first = λ y r. h.2 y (read_within all y.at y r) r }

one_nearest : (all : List ℕ) (x y : Legible) → IsNearest all x → IsNearest all y → x ≡ y
one_nearest all x y h k =
    let xy = h.first y k.read in
    let yx = k.first x h.read in
    let tables : is_table x ≡ is_table y = both (is_table x) (is_table y) xy.table yx.table in
    let place : x.at ≡ y.at = omega (arith, xy.byte tables, yx.byte (sym tables)) in
    let here : Some x ≡ Some y = sym h.read ∙ (ap (read_at all) place ∙ k.read) in
    cc
  where
    both : (a b : Bool) → (b ≡ true → a ≡ true) → (a ≡ true → b ≡ true) → a ≡ b
    both true b f g = sym (g refl)
    both false true f g = f refl
    both false false f g = refl

pub nearest_law : NearestLaw
nearest_law all x = (from_nearest all x, λ h. by (nearest_of all) refl h)
  where
    by : (o : Option Legible) → nearest_of all ≡ o → IsNearest all x → o ≡ Some x
    by None e h = absurd (let none = subst (IsNearestBelow all (length all)) e (nearest_is all (length all)) in let clash : None ≡ Some x = sym (none x.at (read_within all x.at x h.read)) ∙ h.read in cc)
    by (Some y) e h = ap Some (one_nearest all y x (from_nearest all y e) h)

pub none_law : NoneLegibleLaw
none_law all = (λ e at. nothing e at, λ h. by (nearest_of all) refl h)
  where
    nothing : nearest_of all ≡ None → (at : ℕ) → read_at all at ≡ None
    nothing e at = elim (cases_lt at (length all)) [
      | inl less ↦ subst (IsNearestBelow all (length all)) e (nearest_is all (length all)) at less
      | inr past ↦ past_none all at past
    ]

    by : (o : Option Legible) → nearest_of all ≡ o → ((at : ℕ) → read_at all at ≡ None) → o ≡ None
    by None e h = refl
    by (Some x) e h = absurd (let clash : None ≡ Some x = sym (h x.at) ∙ (from_nearest all x e).read in cc)

-- ---- a dump that is looked through

-- none can be read at a place of bytes with fewer than three behind it, or with no version there
pub few_at : (bytes : List ℕ) (place : ℕ) → length bytes ≤ place + 2 → legible (drop place bytes) ≡ None
few_at bytes place few = few_legible (drop place bytes) (omega (arith, length-drop place bytes))

pub unnamed_at : (bytes : List ℕ) (place version : ℕ) → version ≡ slice_index bytes (place + 2) → (version == 1) ≡ false → (version == 2) ≡ false → legible (drop place bytes) ≡ None
unnamed_at bytes place version is one two =
    let same : slice_index (drop place bytes) 2 ≡ version = get_or-drop place bytes 2 0 ∙ sym is in
    unnamed_legible (drop place bytes) (ap (λ v. v == 1) same ∙ one) (ap (λ v. v == 2) same ∙ two)

-- one place more, at which a record was looked for, or where none may begin
pub look_more : (all : List ℕ) (first places place : ℕ) (bytes : List ℕ) (old new : Option Legible) → HasBehind all first places bytes → place < places → places ≤ length bytes → old ≡ nearest_below all (first + place)
    → new ≡ nearer old (legible_at (first + place) (legible (drop place bytes))) → new ≡ nearest_below all (first + (place + 1))
look_more all first places place bytes old new h less within before is =
    let next : first + (place + 1) ≡ first + place + 1 = omega arith in
    is ∙ (ap (λ o. nearer old (legible_at (first + place) o)) (legible_within all first places bytes place h less within) ∙ (ap (λ o. nearer o (read_at all (first + place))) before
    ∙ (sym (nearest_more all (first + place)) ∙ ap (nearest_below all) (sym next))))

pub pass_more : (all : List ℕ) (first places place : ℕ) (bytes : List ℕ) (old : Option Legible) → HasBehind all first places bytes → place < places → places ≤ length bytes → old ≡ nearest_below all (first + place)
    → legible (drop place bytes) ≡ None → old ≡ nearest_below all (first + (place + 1))
pass_more all first places place bytes old h less within before none =
    let there : legible (drop (first + place) all) ≡ None = sym (legible_within all first places bytes place h less within) ∙ none in
    let next : first + (place + 1) ≡ first + place + 1 = omega arith in
    before ∙ (sym (nearest_less all (first + place) there) ∙ ap (nearest_below all) (sym next))

-- the one of a table page that is found first is the nearest one of the dump
pub settled_nearest : (all : List ℕ) (n : ℕ) (o : Option Legible) → n ≤ length all → o ≡ nearest_below all n → is_settled o ≡ true → o ≡ nearest_of all
settled_nearest all n None le is settled = absurd (let clash : false ≡ true = settled in cc)
settled_nearest all n (Some x) le is settled =
    let e : length all ≡ n + (length all - n) = omega arith in
    sym (ap (nearest_below all) e ∙ table_stays all n (length all - n) x (sym is) settled)

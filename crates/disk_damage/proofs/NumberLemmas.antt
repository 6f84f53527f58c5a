-- Numbers that pass a test, and letters and numbers one after another.
use Rattle.std.proofs.Common.{◌≡◌, ℕ, zero, suc, ◌+◌, ◌<◌, ◌≤◌, Bool, true, false, List, [], ◌∷◌, ◌++◌, length, get_or, take, map, replicate, refl, sym, ap, ◌∙◌, arith, zero-add, append_assoc}
use Rattle.std.specs.Prelude.{filter, decimal, nat_le, ◌||◌, Result, Ok, Err, IfErr}
use Rattle.std.specs.List.{range_with_len}
use Rattle.std.proofs.lemmas.Bool.{le-leb, lt-leb}
use Rattle.std.proofs.lemmas.List.{get_or-map, length-append, length-map, take_more}
use Rattle.std.proofs.lemmas.List.Elements.{filter-append}
use Rattle.page_layout.specs.declared.geometry.Geometry.{Geometry}
use Rattle.page_layout.specs.Page.{Image}
use Rattle.image_check.proofs.StaleLemmas.{filter_same}
use Rattle.lost_sectors.specs.Lost.{Adds, is_listed_in, is_lost, lost_sectors}
use Rattle.disk_damage.specs.declared.list_text.ListFault.{ListFault}
use Rattle.disk_damage.specs.declared.list_text.ListFault.TheVariants.{Length, Letter, OutOfMemory}
use Rattle.disk_damage.specs.ListText.{IsListText, IsNoList, letter, list_text}
use Rattle.disk_damage.specs.Numbers.{between, listed_sectors}

-- ---- numbers that pass

last_of : (a n j : ℕ) → a + n ≡ j → range_with_len a (suc n) ≡ range_with_len a n ++ (j ∷ [])
last_of a zero j e = let same : a ≡ j = omega (arith, e) in ap (λ k. k ∷ []) same
last_of a (suc n) j e = ap (λ l. a ∷ l) (last_of (a + 1) n j (omega (arith, e)))

filter_more : (p : ℕ → Bool) (n : ℕ) → filter p (range_with_len 0 (n + 1)) ≡ filter p (range_with_len 0 n) ++ filter p (n ∷ [])
filter_more p n =
    let next : n + 1 ≡ suc n = omega arith in
    ap (λ k. filter p (range_with_len 0 k)) next ∙ (ap (filter p) (last_of 0 n n (zero-add n)) ∙ filter-append p (range_with_len 0 n) (n ∷ []))

one_more : (p : ℕ → Bool) (n : ℕ) → p n ≡ true → filter p (n ∷ []) ≡ n ∷ []
one_more p n holds = rw holds refl

none_more : (p : ℕ → Bool) (n : ℕ) → p n ≡ false → filter p (n ∷ []) ≡ []
none_more p n denied = rw denied refl

pub nothing_behind : (xs : List ℕ) → xs ++ [] ≡ xs
nothing_behind [] = refl
nothing_behind (x ∷ xs) = ap (λ l. x ∷ l) (nothing_behind xs)

pub passes : (p : ℕ → Bool) (n : ℕ) (now new : List ℕ) → p n ≡ true → now ≡ filter p (range_with_len 0 n) → new ≡ now ++ (n ∷ []) → new ≡ filter p (range_with_len 0 (n + 1))
passes p n now new holds is more = more ∙ (ap (λ l. l ++ (n ∷ [])) is ∙ (ap (λ l. filter p (range_with_len 0 n) ++ l) (sym (one_more p n holds)) ∙ sym (filter_more p n)))

pub fails : (p : ℕ → Bool) (n : ℕ) (now : List ℕ) → p n ≡ false → now ≡ filter p (range_with_len 0 n) → now ≡ filter p (range_with_len 0 (n + 1))
fails p n now denied is = is ∙ (sym (nothing_behind (filter p (range_with_len 0 n))) ∙ (ap (λ l. filter p (range_with_len 0 n) ++ l) (sym (none_more p n denied)) ∙ sym (filter_more p n)))

-- ---- numbers between two texts

pub between_more : (front end : List ℕ) (ns : List ℕ) (n : ℕ) → between front end (ns ++ (n ∷ [])) ≡ between front end ns ++ (front ++ (decimal n ++ end))
unfolding between
between_more front end [] n = ap (λ l. front ++ (decimal n ++ l)) (nothing_behind end)
between_more front end (m ∷ ns) n =
    ap (λ l. front ++ (decimal m ++ (end ++ l))) (between_more front end ns n)
    ∙ simp append_assoc

pub number_more : (old now new front end numbers : List ℕ) (i : ℕ) → i < length numbers → now ≡ old ++ between front end (take i numbers) → new ≡ now ++ (front ++ (decimal (get_or numbers i 0) ++ end))
    → new ≡ old ++ between front end (take (i + 1) numbers)
number_more old now new front end numbers i within is more =
    let last : List ℕ = front ++ (decimal (get_or numbers i 0) ++ end) in
    more ∙ (ap (λ l. l ++ last) is ∙ (append_assoc old (between front end (take i numbers)) last ∙ sym (ap (λ l. old ++ l) (ap (between front end) (take_more numbers i 0 within) ∙ between_more front end (take i numbers) (get_or numbers i 0)))))

-- ---- the letters of a list

letter_same : (a b : Bool) → letter a ≡ letter b → a ≡ b
letter_same true true e = refl
letter_same false false e = refl
letter_same true false e = absurd (omega (arith, e))
letter_same false true e = absurd (omega (arith, e))

same_front : (xs ys : List ℕ) (end : ℕ) → length xs ≡ length ys → xs ++ (end ∷ []) ≡ ys ++ (end ∷ []) → xs ≡ ys
same_front [] [] end long e = refl
same_front [] (y ∷ ys) end long e = absurd (omega (arith, long))
same_front (x ∷ xs) [] end long e = absurd (omega (arith, long))
same_front (x ∷ xs) (y ∷ ys) end long e =
    let head : x ≡ y = cc in
    let tail : xs ++ (end ∷ []) ≡ ys ++ (end ∷ []) = cc in
    let rest : xs ≡ ys = same_front xs ys end (omega (arith, long)) tail in
    cc

letters_same : (xs ys : List Bool) → map letter xs ≡ map letter ys → xs ≡ ys
letters_same [] [] e = refl
letters_same [] (y ∷ ys) e = absurd (cc)
letters_same (x ∷ xs) [] e = absurd (cc)
letters_same (x ∷ xs) (y ∷ ys) e =
    let head : letter x ≡ letter y = cc in
    let tail : map letter xs ≡ map letter ys = cc in
    let first : x ≡ y = letter_same x y head in
    let rest : xs ≡ ys = letters_same xs ys tail in
    cc

-- a byte that is no letter stands in no list
pub no_letter : (lost : List Bool) (bytes : List ℕ) (i : ℕ) → i < length bytes → ((b : Bool) → letter b ≡ get_or bytes i 0 → ⊥) → map letter lost ≡ bytes → ⊥
no_letter lost bytes i within none same =
    let long : length (map letter lost) ≡ length lost = length-map lost letter in
    let there : i < length lost = omega (arith, within, long, ap length same) in
    none (get_or lost i false) (sym (get_or-map letter lost i false 0 there) ∙ ap (λ l. get_or l i 0) same)

pub read_fault : {X : Type 0} (r : Result X ListFault) (text front : List ℕ) (sectors : ℕ) → text ≡ front ++ (10 ∷ []) → length text ≡ sectors + 1
    → (r ≡ Err Letter → (lost : List Bool) → map letter lost ≡ front → ⊥) → (r ≡ Err Length → ⊥) → IfErr r (IsNoList text sectors)
read_fault (Ok x) text front sectors split long letters lengths = tt
read_fault (Err Length) text front sectors split long letters lengths = absurd (lengths refl)
read_fault (Err Letter) text front sectors split long letters lengths = (
  long,
  λ lost is. letters refl lost (sym (same_front front (map letter lost) 10 (omega (arith, long, ap length split, length-append front (10 ∷ []), length-map lost letter, is.size)) (sym split ∙ is.is))),
)
read_fault (Err OutOfMemory) text front sectors split long letters lengths = tt

length_list : (lost : List Bool) → length (list_text lost) ≡ length lost + 1
length_list [] = refl
length_list (x ∷ xs) = omega (arith, length_list xs)

pub list_read : (lost read : List Bool) (sectors : ℕ) → IsListText (list_text lost) sectors read → (read ≡ lost) × (length lost ≡ sectors)
list_read lost read sectors is =
    let long : length lost ≡ length read = omega (arith, length_list lost, length_list read, ap length is.is) in
    let same : lost ≡ read = letters_same lost read (same_front (map letter lost) (map letter read) 10 (omega (arith, long, length-map lost letter, length-map read letter)) is.is) in
    (sym same, omega (arith, long, is.size))

pub cut_read : (lost read : List Bool) (text : List ℕ) → IsListText text (length lost) read → length text ≡ length (list_text lost)
cut_read lost read text is = omega (arith, length_list lost, length_list read, ap length is.is, is.size)

-- ---- the sectors of a list that was empty

none_there : (n k : ℕ) → get_or (replicate n false) k false ≡ false
none_there zero k = refl
none_there (suc n) zero = refl
none_there (suc n) (suc k) = none_there n k

no_other : (b : Bool) → b ≡ (false || b)
no_other true = refl
no_other false = refl

long_none : (n : ℕ) → length (replicate n false) ≡ n
long_none zero = refl
long_none (suc n) = ap suc (long_none n)

pub listed_are : (g : Geometry) (image : Image) (mark : ℕ) (lost : List Bool) → Adds (is_lost g image mark) 0 g.sectors (replicate g.sectors false) lost → listed_sectors lost ≡ lost_sectors g image mark
unfolding listed_sectors lost_sectors
listed_are g image mark lost adds =
    let size : length lost ≡ g.sectors = adds.size ∙ long_none g.sectors in
    ap (λ n. filter (is_listed_in lost) (range_with_len 0 n)) size
    ∙ filter_same (is_listed_in lost) (is_lost g image mark) 0 g.sectors
    (λ k low high. adds.inside k low (omega (arith, high)) ∙ (ap (λ b. b || is_lost g image mark k) (none_there g.sectors k) ∙ sym (no_other (is_lost g image mark k))))

-- ---- a class

pub is_least : (found class : ℕ) → found ≡ class → 4 ≤ found → nat_le 4 class ≡ true
is_least found class is least = le-leb 4 class (omega (arith, is, least))

pub is_less : (found class : ℕ) → found ≡ class → found < 4 → nat_le 4 class ≡ false
is_less found class is less = lt-leb 4 class (omega (arith, is, less))

-- What more than half of several pages say.
use Rattle.std.proofs.Common.{◌≡◌, ◌↔◌, inl, inr, ℕ, zero, suc, add-one, lit<, lit≤, ◌+◌, ◌-◌, ◌*◌, ◌/◌, ◌%◌, ◌^◌, ◌<◌, ◌≤◌, Bool, true, false, cond, eqb, List, [], ◌∷◌, ◌++◌, length, get_or, map, take, drop, replicate, refl, sym, ap, ◌∙◌, subst, arith}
use Rattle.std.specs.Prelude.{nat_lt, count_by, sum_by, bit_and}
use Rattle.std.specs.List.{range_with_len}
use Rattle.std.specs.Int.{bit_at}
use Rattle.std.proofs.Math.Nat.{pow-suc}
use Rattle.std.proofs.lemmas.Bool.{cases_lt, lt-ltb, le-ltb}
use Rattle.std.proofs.lemmas.List.{length-map, length-replicate, map-id, get_or-take, get_or-drop}
use Rattle.std.proofs.lemmas.List.Folds.{sum_by-replicate}
use Rattle.std.proofs.lemmas.List.FromFn.{length-map-range_with_len, get_or-map-range_with_len, map-range_with_len_more, fill_by_all}
use Rattle.std.proofs.lemmas.List.Sums.{sum_by_push, sum_by-cons}
use Rattle.std.proofs.lemmas.Nat.{pow_below}
use Rattle.std.proofs.lemmas.Nat.Bits.{bit_at-lt, bit_at_cat_low, bit_at_cat_high, bit_at_lowest, shr_and_one}
use Rattle.page_layout.specs.declared.geometry.Geometry.{Geometry}
use Rattle.page_layout.specs.Geometry.{page_bytes}
use Rattle.page_layout.specs.Page.{Page}
use Rattle.page_layout.specs.Raw.{bytes_of_page}
use Rattle.lab_dump.specs.PageBytes.{page_from_bytes, page_bit}
use Rattle.lab_dump.proofs.PageLemmas.{bytes_again}
use Rattle.lab_mend.specs.Majority.{votes, majority_bit, byte_of, column, majority_byte, majority, MajorityLaw}
use Rattle.lab_mend.specs.Pages.{piece_at, page_of_reading, pages_in, bytes_at}

-- ---- a byte by its bits

pub range_more : (n : ℕ) → range_with_len 0 (n + 1) ≡ range_with_len 0 n ++ n ∷ []
range_more n =
    sym (map-id (range_with_len 0 (n + 1)))
    ∙ (map-range_with_len_more (λ (k : ℕ). k) 0 n n (omega arith) ∙ ap (λ xs. xs ++ n ∷ []) (map-id (range_with_len 0 n)))

pub byte_more : (bits : ℕ → ℕ) (n : ℕ) → byte_of bits (n + 1) ≡ byte_of bits n + bits n * 2 ^ n
unfolding byte_of
byte_more bits n = ap (sum_by (λ b. bits b * 2 ^ b)) (range_more n) ∙ sum_by_push (λ b. bits b * 2 ^ b) (range_with_len 0 n) n

pub byte_none : (bits : ℕ → ℕ) → byte_of bits 0 ≡ 0
unfolding byte_of
byte_none bits = refl

double : (b p : ℕ) → b < 2 → b * p ≤ p
double b p l = elim (cases_lt b 1) [
  | inl less ↦ let none : b ≡ 0 = omega arith in subst (λ c. c * p ≤ p) (sym none) (omega arith)
  | inr more ↦ let one : b ≡ 1 = omega arith in subst (λ c. c * p ≤ p) (sym one) (omega arith)
]

pub byte_small : (bits : ℕ → ℕ) → ((b : ℕ) → bits b < 2) → (n : ℕ) → byte_of bits n < 2 ^ n
byte_small bits low zero = subst (λ x. x < 2 ^ 0) (sym (byte_none bits)) (lit< tt)
byte_small bits low (suc n) =
    let step : byte_of bits (suc n) ≡ byte_of bits n + bits n * 2 ^ n = ap (byte_of bits) (sym (add-one n)) ∙ byte_more bits n in
    let power : 2 ^ suc n ≡ 2 ^ n * 2 = pow-suc 2 n in
    let less : byte_of bits n < 2 ^ n = byte_small bits low n in
    let most : bits n * 2 ^ n ≤ 2 ^ n = double (bits n) (2 ^ n) (low n) in
    rw (step, power) (omega arith)

cat_same : (x a p : ℕ) → x + a * p ≡ a * p + x
cat_same x a p = omega arith

one_bit : (b : ℕ) → b < 2 → bit_at b 0 ≡ b
one_bit b l = bit_at_lowest b ∙ small b l
  where
    small : (c : ℕ) → c < 2 → c % 2 ≡ c
    small c h = omega arith

-- each bit of the byte is the one that was asked for
pub bit_of_byte : (bits : ℕ → ℕ) → ((b : ℕ) → bits b < 2) → (n i : ℕ) → i < n → bit_at (byte_of bits n) i ≡ bits i
bit_of_byte bits low zero i l = absurd (omega arith)
bit_of_byte bits low (suc n) i l =
    let step : byte_of bits (suc n) ≡ bits n * 2 ^ n + byte_of bits n = ap (byte_of bits) (sym (add-one n)) ∙ (byte_more bits n ∙ cat_same (byte_of bits n) (bits n) (2 ^ n)) in
    ap (λ x. bit_at x i) step ∙ elim (cases_lt i n) [
      | inl less ↦ bit_at_cat_low (bits n) n (byte_of bits n) i less ∙ bit_of_byte bits low n i less
      | inr more ↦
          let last : i ≡ n = omega arith in
          let none : i - n ≡ 0 = omega arith in
          bit_at_cat_high (bits n) n (byte_of bits n) i (byte_small bits low n) more ∙ (ap (bit_at (bits n)) none ∙ (one_bit (bits n) (low n) ∙ ap bits (sym last)))
    ]

pub majority_low : (bytes : List ℕ) (b : ℕ) → majority_bit bytes b < 2
majority_low bytes b = by (nat_lt (length bytes) (2 * votes bytes b))
  where
    by : (t : Bool) → cond t 1 0 < 2
    by true = lit< tt
    by false = lit< tt

-- ---- the page of the majority

majority_bytes : (g : Geometry) (pages : List Page) → bytes_of_page (majority g pages) ≡ map (λ j. majority_byte (column pages j)) (range_with_len 0 (page_bytes g))
unfolding majority
majority_bytes g pages = bytes_again g.data_bytes (map (λ j. majority_byte (column pages j)) (range_with_len 0 (page_bytes g)))

pub majority_at : (g : Geometry) (pages : List Page) (j : ℕ) → j < page_bytes g → get_or (bytes_of_page (majority g pages)) j 0 ≡ majority_byte (column pages j)
majority_at g pages j l =
    ap (λ bs. get_or bs j 0) (majority_bytes g pages) ∙ get_or-map-range_with_len (λ k. majority_byte (column pages k)) 0 (page_bytes g) j j 0 l (omega arith)

-- how many have the bit set, as a count of pages
votes_count : (pages : List Page) (k : ℕ) → votes (column pages (k / 8)) (k % 8) ≡ count_by (λ p. eqb (page_bit p k) 1) pages
votes_count [] k = refl
votes_count (p ∷ ps) k =
    let x : ℕ = get_or (bytes_of_page p) (k / 8) 0 in
    sum_by-cons (λ y. bit_at y (k % 8)) x (column ps (k / 8))
    ∙ (ap (λ n. bit_at x (k % 8) + n) (votes_count ps k) ∙ (ap (λ b. b + count_by (λ q. eqb (page_bit q k) 1) ps) (one_if (bit_at x (k % 8)) (bit_at-lt x (k % 8)))
    ∙ sym (sum_by-cons (λ q. cond (eqb (page_bit q k) 1) 1 0) p ps)))
  where
    one_if : (b : ℕ) → b < 2 → b ≡ cond (eqb b 1) 1 0
    one_if b l = elim (cases_lt b 1) [
      | inl less ↦ let none : b ≡ 0 = omega arith in subst (λ c. c ≡ cond (eqb c 1) 1 0) (sym none) refl
      | inr more ↦ let one : b ≡ 1 = omega arith in subst (λ c. c ≡ cond (eqb c 1) 1 0) (sym one) refl
    ]

abbrev one_of : Bool → ℕ
one_of b = cond b 1 0

apart : (x : ℕ) → x ≡ 0 → x ≡ 1 → ⊥
apart x e f = omega arith

bit_says : (bytes : List ℕ) (b : ℕ) → (majority_bit bytes b ≡ 1) ↔ (length bytes < 2 * votes bytes b)
bit_says bytes b = (
  λ e. elim (cases_lt (length bytes) (2 * votes bytes b)) [ inl l ↦ l | inr le ↦ absurd (apart (majority_bit bytes b) (ap one_of (le-ltb (length bytes) (2 * votes bytes b) le)) e) ],
  λ l. ap one_of (lt-ltb (length bytes) (2 * votes bytes b) l),
)

pub majority_law : MajorityLaw
majority_law g pages k within =
    let bytes : List ℕ = column pages (k / 8) in
    let bit : page_bit (majority g pages) k ≡ majority_bit bytes (k % 8) =
    ap (λ x. bit_at x (k % 8)) (majority_at g pages (k / 8) (omega arith)) ∙ bit_of_byte (majority_bit bytes) (majority_low bytes) 8 (k % 8) (omega arith) in
    let said = bit_says bytes (k % 8) in
    let few : length bytes ≡ length pages = length-map pages (λ p. get_or (bytes_of_page p) (k / 8) 0) in
    let all : votes bytes (k % 8) ≡ count_by (λ p. eqb (page_bit p k) 1) pages = votes_count pages k in (
      λ e. subst (λ n. n < 2 * count_by (λ p. eqb (page_bit p k) 1) pages) few (subst (λ v. length bytes < 2 * v) all (said.0 (sym bit ∙ e))),
      λ l. bit ∙ said.1 (subst (λ v. length bytes < 2 * v) (sym all) (subst (λ n. n < 2 * count_by (λ p. eqb (page_bit p k) 1) pages) (sym few) l)),
    )

-- ---- of bytes FFh

byte_same : (f h : ℕ → ℕ) (n : ℕ) → ((b : ℕ) → b < n → f b ≡ h b) → byte_of f n ≡ byte_of h n
byte_same f h zero e = byte_none f ∙ sym (byte_none h)
byte_same f h (suc n) e =
    let before : byte_of f n ≡ byte_of h n = byte_same f h n (λ b l. e b (omega arith)) in
    let last : f n ≡ h n = e n (omega arith) in
    ap (byte_of f) (sym (add-one n)) ∙ (byte_more f n ∙ (ap (λ x. x + f n * 2 ^ n) before ∙ (ap (λ x. byte_of h n + x * 2 ^ n) last ∙ (sym (byte_more h n) ∙ ap (byte_of h) (add-one n)))))

byte_ones : byte_of (λ b. 1) 8 ≡ 255
unfolding byte_of
byte_ones = refl

bit_set : (b : ℕ) → b < 8 → bit_at 255 b ≡ 1
bit_set b l = ap (λ x. bit_at x b) (sym byte_ones) ∙ bit_of_byte (λ c. 1) (λ c. lit< tt) 8 b l

votes_set : (n b : ℕ) → b < 8 → votes (replicate n 255) b ≡ n
votes_set n b l = sum_by-replicate (λ x. bit_at x b) n 255 ∙ (ap (λ k. n * k) (bit_set b l) ∙ omega arith)

-- more than half of some bytes FFh is FFh
pub majority_set : (n : ℕ) → 0 < n → majority_byte (replicate n 255) ≡ 255
majority_set n some =
    let set : ℕ = 255 in
    byte_same (majority_bit (replicate n 255)) (λ b. 1) 8
    (λ b l. ap one_of (lt-ltb (length (replicate n 255)) (2 * votes (replicate n 255) b) (let all = votes_set n b l in omega (arith, length-replicate n set)))) ∙ byte_ones

-- ---- of pages that stand one behind another

byte_in_piece : (bytes : List ℕ) (size i j : ℕ) → j < size → get_or (piece_at bytes size i) j 0 ≡ get_or bytes (i * size + j) 0
byte_in_piece bytes size i j l =
    let whole : i * size + size - i * size ≡ size = omega arith in
    ap (λ n. get_or (take n (drop (i * size) bytes)) j 0) whole ∙ (get_or-take size (drop (i * size) bytes) j 0 l ∙ get_or-drop (i * size) bytes j 0)

pub column_is : (g : Geometry) (bytes : List ℕ) (count j : ℕ) → j < page_bytes g → column (pages_in g bytes count) j ≡ bytes_at bytes (page_bytes g) count j
unfolding pages_in bytes_at
column_is g bytes count j l = over 0 count
  where
    over : (from n : ℕ) → column (map (page_of_reading g bytes) (range_with_len from n)) j ≡ map (λ i. get_or bytes (i * page_bytes g + j) 0) (range_with_len from n)
    over from zero = refl
    over from (suc n) =
        let head : get_or (bytes_of_page (page_of_reading g bytes from)) j 0 ≡ get_or bytes (from * page_bytes g + j) 0 =
        ap (λ bs. get_or bs j 0) (bytes_again g.data_bytes (piece_at bytes (page_bytes g) from)) ∙ byte_in_piece bytes (page_bytes g) from j l in
        ap (λ x. x ∷ column (map (page_of_reading g bytes) (range_with_len (from + 1) n)) j) head ∙ ap (λ xs. get_or bytes (from * page_bytes g + j) 0 ∷ xs) (over (from + 1) n)

pub length-bytes_at : (bytes : List ℕ) (size count j : ℕ) → length (bytes_at bytes size count j) ≡ count
unfolding bytes_at
length-bytes_at bytes size count j = length-map-range_with_len (λ i. get_or bytes (i * size + j) 0) 0 count

-- one page more
pub votes_more : (bytes : List ℕ) (size i j b : ℕ) → votes (bytes_at bytes size (i + 1) j) b ≡ votes (bytes_at bytes size i j) b + bit_at (get_or bytes (i * size + j) 0) b
unfolding bytes_at
votes_more bytes size i j b =
    ap (sum_by (λ x. bit_at x b)) (map-range_with_len_more (λ k. get_or bytes (k * size + j) 0) 0 i i (omega arith))
    ∙ sum_by_push (λ x. bit_at x b) (map (λ k. get_or bytes (k * size + j) 0) (range_with_len 0 i)) (get_or bytes (i * size + j) 0)

pub votes_none : (bytes : List ℕ) (size j b : ℕ) → votes (bytes_at bytes size 0 j) b ≡ 0
unfolding bytes_at
votes_none bytes size j b = refl

pub majority_written : (g : Geometry) (bytes out : List ℕ) (count : ℕ) → length out ≡ page_bytes g
    → ((j : ℕ) → j < page_bytes g → get_or out j 0 ≡ byte_of (majority_bit (bytes_at bytes (page_bytes g) count j)) 8) → out ≡ bytes_of_page (majority g (pages_in g bytes count))
majority_written g bytes out count size each =
    let pages : List Page = pages_in g bytes count in
    fill_by_all (λ j. majority_byte (column pages j)) out (page_bytes g) 0 size (λ j l. each j l ∙ ap majority_byte (sym (column_is g bytes count j l))) ∙ sym (majority_bytes g pages)

-- ---- one page more, as the code counts it

pub bit_small : (x b : ℕ) → bit_and (x / 2 ^ b) 1 ≤ 1
bit_small x b = subst (λ n. n ≤ 1) (sym (shr_and_one x b)) (let l = bit_at-lt x b in omega arith)

pub votes_step : (bytes : List ℕ) (size i j b v : ℕ) → v ≡ votes (bytes_at bytes size i j) b → v + bit_and (get_or bytes (i * size + j) 0 / 2 ^ b) 1 ≡ votes (bytes_at bytes size (i + 1) j) b
votes_step bytes size i j b v e =
    ap (λ n. n + bit_and (get_or bytes (i * size + j) 0 / 2 ^ b) 1) e
    ∙ (ap (λ n. votes (bytes_at bytes size i j) b + n) (shr_and_one (get_or bytes (i * size + j) 0) b) ∙ sym (votes_more bytes size i j b))

pub majority_yes : (bytes : List ℕ) (b count : ℕ) → length bytes ≡ count → count / 2 < votes bytes b → majority_bit bytes b ≡ 1
majority_yes bytes b count size l = ap one_of (lt-ltb (length bytes) (2 * votes bytes b) (omega arith))

pub majority_no : (bytes : List ℕ) (b count : ℕ) → length bytes ≡ count → votes bytes b ≤ count / 2 → majority_bit bytes b ≡ 0
majority_no bytes b count size l = ap one_of (le-ltb (length bytes) (2 * votes bytes b) (omega arith))

power_most : (n : ℕ) → n < 8 → 2 ^ n ≤ 128
power_most n l = elim (cases_lt n 7) [
  | inl less ↦ (let below : 2 ^ n < 2 ^ 7 = pow_below n 7 less in omega arith)
  | inr more ↦ (let last : n ≡ 7 = omega arith in subst (λ k. 2 ^ k ≤ 128) (sym last) (lit≤ tt))
]

-- a bit in its place
pub shifted : (m n : ℕ) → m < 2 → n < 8 → m * 2 ^ n % 2 ^ 8 ≡ m * 2 ^ n
shifted m n low l =
    let most : m * 2 ^ n ≤ 2 ^ n = double m (2 ^ n) low in
    let few : 2 ^ n ≤ 128 = power_most n l in
    small (m * 2 ^ n) (omega arith)
  where
    small : (x : ℕ) → x ≤ 128 → x % 256 ≡ x
    small x h = omega arith

pub byte_fits : (bytes : List ℕ) (n : ℕ) → n < 8 → byte_of (majority_bit bytes) n + majority_bit bytes n * 2 ^ n < 256
byte_fits bytes n l =
    let less : byte_of (majority_bit bytes) n < 2 ^ n = byte_small (majority_bit bytes) (majority_low bytes) n in
    let most : majority_bit bytes n * 2 ^ n ≤ 2 ^ n = double (majority_bit bytes n) (2 ^ n) (majority_low bytes n) in
    let few : 2 ^ n ≤ 128 = power_most n l in
    omega arith

pub majority_again : (g : Geometry) (pages : List Page) → page_from_bytes g.data_bytes (bytes_of_page (majority g pages)) ≡ majority g pages
unfolding majority
majority_again g pages = ap (page_from_bytes g.data_bytes) (bytes_again g.data_bytes (map (λ j. majority_byte (column pages j)) (range_with_len 0 (page_bytes g))))

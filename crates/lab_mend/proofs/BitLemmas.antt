-- Single bits of a page.
use Rattle.std.proofs.Common.{◌≡◌, ◌≢◌, ◌↔◌, inl, inr, ℕ, ◌+◌, ◌*◌, ◌/◌, ◌%◌, ◌^◌, ◌<◌, ◌≤◌, List, length, get_or, set, sym, ap, ◌∙◌, subst, arith, length-append}
use Rattle.std.specs.Prelude.{bit_xor}
use Rattle.std.specs.Int.{bit_at}
use Rattle.std.proofs.lemmas.Bool.{cases_eq}
use Rattle.std.proofs.lemmas.List.{length-set, length-take-le, length-drop, get_or-set_same, get_or-set_other, set-set, set-get_or}
use Rattle.std.proofs.lemmas.Nat.Bits.{bit_at_xor, bit_at-lt, bit_at-pow_same, bit_at-pow_other, same_from_bits}
use Rattle.page_layout.specs.Page.{Page}
use Rattle.page_layout.specs.Raw.{bytes_of_page}
use Rattle.lab_dump.specs.PageBytes.{bits_of, bit_in, page_from_bytes, bit_count, page_bit}
use Rattle.lab_dump.proofs.PageLemmas.{page_again, bytes_again}
use Rattle.lab_mend.specs.Bits.{turned_bytes, with_bit_turned, TurnedLaw}

-- ---- bytes

mod_back : (a m : ℕ) → a < 2 → m < 2 → ((a + m) % 2 + m) % 2 ≡ a
mod_back a m low two = omega arith

pub xor_back : (a m : ℕ) → bit_xor (bit_xor a m) m ≡ a
xor_back a m = same_from_bits (bit_xor (bit_xor a m) m) a (λ i.
    bit_at_xor (bit_xor a m) m i ∙ (ap (λ b. (b + bit_at m i) % 2) (bit_at_xor a m i) ∙ mod_back (bit_at a i) (bit_at m i) (bit_at-lt a i) (bit_at-lt m i)))

pub byte_within : (bytes : List ℕ) (k : ℕ) → k < bits_of bytes → k / 8 < length bytes
byte_within bytes k l = omega arith

pub length-turned : (bytes : List ℕ) (k : ℕ) → length (turned_bytes bytes k) ≡ length bytes
unfolding turned_bytes
length-turned bytes k = length-set bytes (k / 8) (bit_xor (get_or bytes (k / 8) 0) (2 ^ (k % 8)))

pub turned_back : (bytes : List ℕ) (k : ℕ) → k < bits_of bytes → turned_bytes (turned_bytes bytes k) k ≡ bytes
unfolding turned_bytes
turned_back bytes k l =
    let i : ℕ = k / 8 in
    let m : ℕ = 2 ^ (k % 8) in
    let y : ℕ = bit_xor (get_or bytes i 0) m in
    let here : get_or (set bytes i y) i 0 ≡ y = get_or-set_same bytes i y 0 (byte_within bytes k l) in
    ap (λ b. set (set bytes i y) i (bit_xor b m)) here
    ∙ (set-set bytes i y (bit_xor y m) ∙ (ap (λ b. set bytes i b) (xor_back (get_or bytes i 0) m) ∙ set-get_or bytes i 0))

-- turned twice the bytes are as they were
pub back_again : (bytes once twice : List ℕ) (k : ℕ) → k < bits_of bytes → once ≡ turned_bytes bytes k → twice ≡ turned_bytes once k → twice ≡ bytes
back_again bytes once twice k l first second = second ∙ (ap (λ b. turned_bytes b k) first ∙ turned_back bytes k l)

flip_apart : (b : ℕ) → b < 2 → (b + 1) % 2 ≡ b → ⊥
flip_apart b l e = omega arith

zero_same : (b : ℕ) → b < 2 → (b + 0) % 2 ≡ b
zero_same b l = omega arith

turned_at : (bytes : List ℕ) (k : ℕ) → k < bits_of bytes → get_or (turned_bytes bytes k) (k / 8) 0 ≡ bit_xor (get_or bytes (k / 8) 0) (2 ^ (k % 8))
unfolding turned_bytes
turned_at bytes k l = get_or-set_same bytes (k / 8) (bit_xor (get_or bytes (k / 8) 0) (2 ^ (k % 8))) 0 (byte_within bytes k l)

turned_away : (bytes : List ℕ) (k i : ℕ) → i ≢ k / 8 → get_or (turned_bytes bytes k) i 0 ≡ get_or bytes i 0
unfolding turned_bytes
turned_away bytes k i ne = get_or-set_other bytes (k / 8) i (bit_xor (get_or bytes (k / 8) 0) (2 ^ (k % 8))) 0 ne

pub turned_bit : (bytes : List ℕ) (k : ℕ) → k < bits_of bytes → bit_in (turned_bytes bytes k) k ≡ (bit_in bytes k + 1) % 2
turned_bit bytes k l =
    ap (λ b. bit_at b (k % 8)) (turned_at bytes k l)
    ∙ (bit_at_xor (get_or bytes (k / 8) 0) (2 ^ (k % 8)) (k % 8) ∙ ap (λ b. (bit_in bytes k + b) % 2) (bit_at-pow_same (k % 8)))

pub kept_bit : (bytes : List ℕ) (k j : ℕ) → k < bits_of bytes → j ≢ k → bit_in (turned_bytes bytes k) j ≡ bit_in bytes j
kept_bit bytes k j l ne = elim (cases_eq (j / 8) (k / 8)) [
  | inl same ↦
      let apart : j % 8 ≢ k % 8 = λ e. ne (omega arith) in
      ap (λ i. bit_at (get_or (turned_bytes bytes k) i 0) (j % 8)) same
      ∙ (ap (λ b. bit_at b (j % 8)) (turned_at bytes k l)
      ∙ (bit_at_xor (get_or bytes (k / 8) 0) (2 ^ (k % 8)) (j % 8)
      ∙ (ap (λ b. (bit_at (get_or bytes (k / 8) 0) (j % 8) + b) % 2) (bit_at-pow_other (k % 8) (j % 8) apart)
      ∙ (zero_same (bit_at (get_or bytes (k / 8) 0) (j % 8)) (bit_at-lt (get_or bytes (k / 8) 0) (j % 8))
      ∙ ap (λ i. bit_at (get_or bytes i 0) (j % 8)) (sym same)))))
  | inr away ↦ ap (λ b. bit_at b (j % 8)) (turned_away bytes k (j / 8) away)
]

pub others_of : (bytes : List ℕ) (k : ℕ) → k < bits_of bytes → (j : ℕ) → (bit_in (turned_bytes bytes k) j ≡ bit_in bytes j) ↔ (¬ (j ≡ k))
others_of bytes k l j = (
  λ same e. flip_apart (bit_in bytes k) (bit_at-lt (get_or bytes (k / 8) 0) (k % 8)) (sym (turned_bit bytes k l) ∙ (ap (bit_in (turned_bytes bytes k)) (sym e) ∙ (same ∙ ap (bit_in bytes) e))),
  λ ne. kept_bit bytes k j l ne,
)

-- ---- pages

-- the same page, where the first so many bytes are its data area
pub turned_page : (size : ℕ) (bytes : List ℕ) (k : ℕ) → size ≤ length bytes → with_bit_turned (page_from_bytes size bytes) k ≡ page_from_bytes size (turned_bytes bytes k)
turned_page size bytes k l =
    ap (λ n. page_from_bytes n (turned_bytes (bytes_of_page (page_from_bytes size bytes)) k)) (length-take-le size bytes l) ∙ ap (λ b. page_from_bytes size (turned_bytes b k)) (bytes_again size bytes)

pub count_page : (size : ℕ) (bytes : List ℕ) → bit_count (page_from_bytes size bytes) ≡ bits_of bytes
count_page size bytes = ap bits_of (bytes_again size bytes)

pub bytes_turned : (p : Page) (k : ℕ) → bytes_of_page (with_bit_turned p k) ≡ turned_bytes (bytes_of_page p) k
bytes_turned p k = bytes_again (length p.body) (turned_bytes (bytes_of_page p) k)

pub body_turned : (p : Page) (k : ℕ) → length (with_bit_turned p k).body ≡ length p.body
body_turned p k = length-take-le (length p.body) (turned_bytes (bytes_of_page p) k) (omega (arith, length-turned (bytes_of_page p) k, length-append p.body p.spare))

pub spare_turned : (p : Page) (k : ℕ) → length (with_bit_turned p k).spare ≡ length p.spare
spare_turned p k = omega (arith, length-drop (length p.body) (turned_bytes (bytes_of_page p) k), length-turned (bytes_of_page p) k, length-append p.body p.spare)

-- turned twice it is as it was
pub turned_twice : (p : Page) (k : ℕ) → k < bit_count p → with_bit_turned (with_bit_turned p k) k ≡ p
turned_twice p k l =
    ap (λ n. page_from_bytes n (turned_bytes (bytes_of_page (with_bit_turned p k)) k)) (body_turned p k)
    ∙ (ap (λ b. page_from_bytes (length p.body) (turned_bytes b k)) (bytes_turned p k)
    ∙ (ap (page_from_bytes (length p.body)) (turned_back (bytes_of_page p) k l) ∙ page_again p))

pub count_turned : (p : Page) (k : ℕ) → bit_count (with_bit_turned p k) ≡ bit_count p
count_turned p k = ap bits_of (bytes_turned p k) ∙ ap (λ n. 8 * n) (length-turned (bytes_of_page p) k)

pub turned_law : TurnedLaw
turned_law p k l = record {
  within = l;
  body_size = body_turned p k;
  spare_size = spare_turned p k;
  others = λ j. subst (λ b. (bit_in b j ≡ page_bit p j) ↔ (¬ (j ≡ k))) (sym (bytes_turned p k)) (others_of (bytes_of_page p) k l j);
}

-- What a collection programs.
use Rattle.std.proofs.Common.{◌≡◌, ℕ, zero, suc, ◌+◌, ◌*◌, ◌/◌, ◌<◌, ◌≤◌, inl, inr, Bool, true, eqb, List, [], ◌∷◌, length, ap, arith}
use Rattle.std.specs.Prelude.{count_by, sum_by}
use Rattle.std.specs.Int.{div_ceil}
use Rattle.std.specs.List.{AllByRecursion, range_with_len}
use Rattle.std.proofs.Math.Nat.{mul-add, mul_comm, mul-le-mul_right}
use Rattle.std.proofs.lemmas.Bool.{cases_Bool, cases_lt}
use Rattle.std.proofs.lemmas.Grind.{div_ceil_times}
use Rattle.std.proofs.lemmas.List.Sums.{sum_by-cons}
use Rattle.page_layout.proofs.GeometryLemmas.{worth, no_share}
use Rattle.page_layout.proofs.CountLemmas.{bit, bit-le, count_by-cons, sum_of_counts, sum_of_counts_all, count_in_range, count_in_range_is, some_exceeds}
use Rattle.budget.specs.Laws.{CopiesFitAtLaw, CopiesFitLaw, TouchedLaw}
use Rattle.budget.specs.Laws.{AccountBeginsLaw, CopyAccountLaw, WriteBackAccountLaw, WriteBacksLaw, BatchFitsLaw, SomeOverLaw}

pub copies_fit_at : CopiesFitAtLaw
copies_fit_at g share v le = (let fits = (worth g share v).0 le in omega (arith, fits))

pub copies_fit : CopiesFitLaw
copies_fit g v le = (let fits = copies_fit_at g 0 v (omega (arith, (no_share g).vmax, le)) in omega (arith, fits))

-- numbers that pass have a count of their own
count_positive : (p : ℕ → Bool) (f : ℕ → ℕ) (a n : ℕ) → ((t : ℕ) → a ≤ t → t < a + n → p t ≡ true → 0 < f t) → count_by p (range_with_len a n) ≤ sum_by f (range_with_len a n)
count_positive p f a zero has = omega arith
count_positive p f a (suc n) has =
    let rest : count_by p (range_with_len (a + 1) n) ≤ sum_by f (range_with_len (a + 1) n) = count_positive p f (a + 1) n (λ t l m e. has t (omega arith) (omega arith) e) in
    let here : bit (p a) ≤ f a = elim (cases_Bool (p a)) [
      | inl passes ↦ (let one : bit (p a) ≡ 1 = ap bit passes in let some = has a (omega arith) (omega arith) passes in omega arith)
      | inr fails ↦ (let none : bit (p a) ≡ 0 = ap bit fails in omega arith)
    ] in
    omega (arith, count_by-cons p a (range_with_len (a + 1) n), sum_by-cons f a (range_with_len (a + 1) n))

count_at_most : (p : ℕ → Bool) (a n : ℕ) → count_by p (range_with_len a n) ≤ n
count_at_most p a zero = omega arith
count_at_most p a (suc n) = omega (arith, count_by-cons p a (range_with_len (a + 1) n), count_at_most p (a + 1) n, bit-le (p a))

pub touched_pages : TouchedLaw
touched_pages per_page count sectors touched has =
    let of : ℕ → ℕ → Bool = λ t n. eqb (n / per_page) t in
    let each : count_by touched (range_with_len 0 count) ≤ sum_by (λ t. count_by (of t) sectors) (range_with_len 0 count) = count_positive touched (λ t. count_by (of t) sectors) 0 count (λ t l m e. has t (omega arith) e) in
    let all : sum_by (λ t. count_by (of t) sectors) (range_with_len 0 count) ≤ length sectors = sum_of_counts of (range_with_len 0 count) sectors (λ n. count_in_range (n / per_page) 0 count) in
    let most : count_by touched (range_with_len 0 count) ≤ count = count_at_most touched 0 count in
    omega arith

-- ---- where moved sectors wait

pub account_begins : AccountBeginsLaw
account_begins share first = omega arith

pub copy_account : CopyAccountLaw
copy_account share first copies written waiting now account more = omega (arith, account, more)

pub write_back_account : WriteBackAccountLaw
write_back_account share first copies written waiting now account less = omega (arith, account, less, mul-add (share + 1) written 1)

pub write_backs : WriteBacksLaw
write_backs g share first copies written waiting begin account many =
    let all = (div_ceil_times copies (share + 1) (omega arith)).0 in
    elim (cases_lt written (div_ceil copies (share + 1))) [
      | inl fits ↦ omega (arith, fits)
      | inr over ↦
          let as_many : div_ceil copies (share + 1) * (share + 1) ≤ written * (share + 1) = mul-le-mul_right (share + 1) over in
          absurd (omega (arith, all, as_many, mul_comm (share + 1) written, account, begin, many))
    ]

pub batch_fits : BatchFitsLaw
batch_fits g share first copies written waiting small begin account many once =
    let few = write_backs g share first copies written waiting begin account many in
    let fits = copies_fit_at g share copies small in
    omega (arith, few, fits, once)

-- each sector is of one of the translation pages
each_on_one : (per_page count : ℕ) (sectors : List ℕ) → AllByRecursion (λ n. n / per_page < count) sectors → AllByRecursion (λ n. 1 ≤ count_by (λ t. eqb (n / per_page) t) (range_with_len 0 count)) sectors
each_on_one per_page count [] all = tt
each_on_one per_page count (n ∷ ns) all =
    let one = count_in_range_is (n / per_page) 0 count (omega arith) (omega (arith, all.0)) in
    (omega (arith, one), each_on_one per_page count ns all.1)

pub some_over : SomeOverLaw
some_over per_page count share sectors all many =
    let of : ℕ → ℕ → Bool = λ t n. eqb (n / per_page) t in
    let sum = sum_of_counts_all of (range_with_len 0 count) sectors (each_on_one per_page count sectors all) in
    let found = some_exceeds (λ t. count_by (of t) sectors) share count (omega (arith, sum, many)) in
    (found.place, record { within = omega (arith, found.below); over = found.is_large; others = λ t low. found.before t (omega arith) low })

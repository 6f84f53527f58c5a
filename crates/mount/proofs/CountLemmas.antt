-- Counts of reads, programs and sequences over one call after another, each over the few numbers that it needs.
use Rattle.std.proofs.Common.{◌≡◌, ◌⊎◌, ℕ, ◌+◌, ◌-◌, ◌*◌, ◌^◌, ◌<◌, ◌≤◌, min, Result, Ok, Err, OnOk, refl, ◌∙◌, subst, inl, inr, arith}
use Rattle.std.proofs.Math.Nat.{mul-le-mul}
use Rattle.std.proofs.lemmas.Bool.{cases_lt}
use Rattle.page_layout.specs.Counter.{counted}
use Rattle.page_layout.specs.View.{View}
use Rattle.mount.specs.OnlyWrites.{OnlyWrites}

-- ---- calls that only write pages

pub wrote_none : {N : Type 0} (view : View N) (a : N) → OnlyWrites view a a
wrote_none view a = record { geometry_was = refl; honest_was = refl; calm_was = refl; reads_were = refl; erases_were = refl; failed_was = omega arith }

pub wrote_then : {N : Type 0} (view : View N) (a b c : N) → OnlyWrites view a b → OnlyWrites view b c → OnlyWrites view a c
wrote_then view a b c h k = record {
  geometry_was = k.geometry_was ∙ h.geometry_was;
  honest_was = k.honest_was ∙ h.honest_was;
  calm_was = k.calm_was ∙ h.calm_was;
  reads_were = k.reads_were ∙ h.reads_were;
  erases_were = k.erases_were ∙ h.erases_were;
  failed_was = omega (arith, h.failed_was, k.failed_was);
}

-- ---- what is counted one by one

pub sum_start : (a : ℕ) → a ≡ a + 0
sum_start a = omega arith

pub sum_next : (a b n : ℕ) → b ≡ a + n → b + 1 ≡ a + (n + 1)
sum_next a b n is = omega arith

pub sum_to : (a b n m : ℕ) → b ≡ a + n → n ≡ m → b ≤ a + m
sum_to a b n m is end = omega arith

pub sum_before : (a b n end m : ℕ) → b ≡ a + n → n < end → end ≡ m → b ≤ a + m
sum_before a b n end m is below end_is = omega arith

pub sum_within : (a b n end m : ℕ) → b ≡ a + n → n < end → end ≡ m → b + 1 ≤ a + m
sum_within a b n end m is below end_is = omega arith

-- at least so many, as far as the count goes
pub least_next : (a b c n : ℕ) → min (a + n) (2 ^ 64 - 1) ≤ b → c ≡ counted b → min (a + (n + 1)) (2 ^ 64 - 1) ≤ c
least_next a b c n least one = omega (arith, least, one)

pub least_more : (a b c n : ℕ) → min (a + n) (2 ^ 64 - 1) ≤ b → counted b ≤ c → min (a + (n + 1)) (2 ^ 64 - 1) ≤ c
least_more a b c n least one = omega (arith, least, one)

pub least_one : (a b c n : ℕ) → min (a + n) (2 ^ 64 - 1) ≤ b → c ≡ counted b → counted a ≤ c
least_one a b c n least one = omega (arith, least, one)

pub least_three : (a b n : ℕ) → min (a + n) (2 ^ 64 - 1) ≤ b → n ≡ 3 → a + 3 < 2 ^ 64 → a + 3 ≤ b
least_three a b n least three fits = omega (arith, least, three, fits)

-- ---- two calls

pub two_reads : (a b c m n : ℕ) → b ≤ a + m → c ≤ b + n → c ≤ a + (m + n)
two_reads a b c m n one two = omega arith

pub one_read : (a b m n : ℕ) → b ≤ a + m → b ≤ a + (m + n)
one_read a b m n one = omega arith

pub le_self : (a : ℕ) → a ≤ a
le_self a = omega arith

pub no_less : (a b c : ℕ) → a ≤ b → b ≤ c → a ≤ c
no_less a b c one two = omega arith

-- a call after the reads that read nothing
pub ok_read : {X Y : Type 0} (r : Result X Y) (a b c n : ℕ) → (a + n < 2 ^ 64 → b ≡ a + n) → c ≡ b → OnOk r (a + n < 2 ^ 64 → c ≡ a + n)
ok_read (Ok x) a b c n reads same = λ fits. same ∙ reads fits
ok_read (Err e) a b c n reads same = tt

pub as_read : (a b c n : ℕ) → b ≤ a + n → c ≡ b → c ≤ a + n
as_read a b c n most same = omega (arith, most, same)

-- a call before the programs that programmed nothing
pub as_programmed : (a b c n : ℕ) → b ≡ a → c ≤ b + n → c ≤ a + n
as_programmed a b c n same most = omega (arith, same, most)

-- ---- attempts of the same length

pub attempts_start : (a n : ℕ) → a ≤ a + 0 * n
attempts_start a n = omega arith

pub attempts_within : (a b f n : ℕ) → b ≤ a + f * n → f ≤ 3 → b ≤ a + 3 * n
attempts_within a b f n most few = (let all : f * n ≤ 3 * n = mul-le-mul few (omega arith) in omega (arith, most, all))

pub attempts_next : (a b c f n : ℕ) → b ≤ a + f * n → c ≤ b + n → c ≤ a + (f + 1) * n
attempts_next a b c f n most one = omega (arith, most, one)

pub attempts_last : (a b c f n : ℕ) → b ≤ a + f * n → c ≤ b + n → f < 3 → c ≤ a + 3 * n
attempts_last a b c f n most one few = attempts_within a c (f + 1) n (attempts_next a b c f n most one) (omega (arith, few))

-- nothing was done, or the last block that could be spared was lost
pub few_left : (a b f good need : ℕ) → (f ≡ 0 → b ≡ a) → (0 < f → need ≤ good + 1) → good < need → (b ≡ a) ⊎ (good + 1 ≡ need)
few_left a b f good need none just few = elim (cases_lt 0 f) [
  | inl some ↦ inr (let enough = just some in omega (arith, enough, few))
  | inr not ↦ inl (none (omega arith))
]

-- ---- the reads of blocks, one after another

pub blocks_start : (a n : ℕ) → a ≡ a + 0 * n
blocks_start a n = omega arith

pub blocks_more : (a b c k n : ℕ) → (a + k * n < 2 ^ 64 → b ≡ a + k * n) → (b + n < 2 ^ 64 → c ≡ b + n) → a + (k + 1) * n < 2 ^ 64 → c ≡ a + (k + 1) * n
blocks_more a b c k n before each fits =
    let next : (k + 1) * n ≡ k * n + n = omega arith in
    let was = before (omega (arith, next, fits)) in
    let more = each (omega (arith, next, was, fits)) in
    omega (arith, next, was, more)

pub blocks_stopped : (a b c k n end m : ℕ) → b ≤ a + k * n → c ≤ b + n → k < end → end ≡ m → c ≤ a + m * n
blocks_stopped a b c k n end m most one below is =
    let all : (k + 1) * n ≤ m * n = mul-le-mul (omega (arith, below, is)) (omega arith) in
    let more = attempts_next a b c k n most one in
    omega (arith, more, all)

-- all of them
pub blocks_all : (a b k n m : ℕ) → (a + k * n < 2 ^ 64 → b ≡ a + k * n) → k ≡ m → a + m * n < 2 ^ 64 → b ≡ a + m * n
blocks_all a b k n m before is = subst (λ k. a + k * n < 2 ^ 64 → b ≡ a + k * n) is before

pub attempts_to : (a b k n m : ℕ) → b ≤ a + k * n → k ≡ m → b ≤ a + m * n
attempts_to a b k n m most is = subst (λ k. b ≤ a + k * n) is most

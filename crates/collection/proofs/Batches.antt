-- Moved sectors leave the list in batches, each of more than the share of a translation page.
use Rattle.std.proofs.Common.{◌≡◌, inl, inr, ℕ, zero, suc, ◌+◌, ◌-◌, ◌*◌, ◌<◌, ◌≤◌, arith}
use Rattle.std.specs.Int.{div_ceil}
use Rattle.std.proofs.Math.Nat.{mul-add, mul_comm, mul-le-mul_right}
use Rattle.std.proofs.lemmas.Bool.{cases_lt}
use Rattle.std.proofs.lemmas.Grind.{div_ceil_times}
use Rattle.collection.specs.Left.{batches}

pub one_more : {k n : ℕ} → k < n → k + 1 ≤ n
one_more less = omega arith

-- no more batches of d than enough are
pub div_ceil_least : (n d k : ℕ) → 0 < d → n ≤ k * d → div_ceil n d ≤ k
div_ceil_least n d k some le =
    let least = (div_ceil_times n d some).1 in
    elim (cases_lt k (div_ceil n d)) [
      | inl more ↦
          let as_many : (k + 1) * d ≤ div_ceil n d * d = mul-le-mul_right d (one_more more) in
          absurd (omega (arith, least, as_many, mul_comm (k + 1) d, mul-add d k 1, mul_comm k d, le))
      | inr over ↦ over
    ]

pub div_ceil_le : (m n d : ℕ) → 0 < d → m ≤ n → div_ceil m d ≤ div_ceil n d
div_ceil_le m n d some le = (let all = (div_ceil_times n d some).0 in div_ceil_least m d (div_ceil n d) some (omega arith))

-- so many batches of share + 1
pub few_batches : (share n written : ℕ) → (share + 1) * written ≤ n + share → written ≤ div_ceil n (share + 1)
few_batches share n written le =
    let all = (div_ceil_times n (share + 1) (omega arith)).0 in
    elim (cases_lt (div_ceil n (share + 1)) written) [
      | inl more ↦
          let as_many : (div_ceil n (share + 1) + 1) * (share + 1) ≤ written * (share + 1) = mul-le-mul_right (share + 1) (one_more more) in
          absurd (omega (arith, all, as_many, mul_comm (div_ceil n (share + 1) + 1) (share + 1), mul-add (share + 1) (div_ceil n (share + 1)) 1, mul_comm (div_ceil n (share + 1)) (share + 1), mul_comm written (share + 1), le))
      | inr over ↦ over
    ]

-- one batch less, where more than the share have left
pub one_batch_less : (m n share : ℕ) → m + share < n → div_ceil m (share + 1) + 1 ≤ div_ceil n (share + 1)
one_batch_less m n share less = by (div_ceil n (share + 1)) (div_ceil_times n (share + 1) (omega arith)).0
  where
    by : (k : ℕ) → n ≤ k * (share + 1) → div_ceil m (share + 1) + 1 ≤ k
    by zero le = absurd (omega arith)
    by (suc k) le = (let few = div_ceil_least m (share + 1) k (omega arith) (let e : suc k ≡ k + 1 = omega arith in omega (arith, le, mul_comm (suc k) (share + 1), mul_comm k (share + 1), mul-add (share + 1) k 1, e)) in omega arith)

pub batches_le : (share may m n : ℕ) → m ≤ n → batches share may m ≤ batches share may n
batches_le share may m n le = div_ceil_le (m - may) (n - may) (share + 1) (omega arith) (omega arith)

-- where more were moved than may wait
pub batches_less : (share may m n : ℕ) → m + share < n → may < n → batches share may m + 1 ≤ batches share may n
batches_less share may m n less many = elim (cases_lt may m) [
  | inl some ↦ one_batch_less (m - may) (n - may) share (omega arith)
  | inr few ↦
      let none : div_ceil (m - may) (share + 1) ≤ 0 = div_ceil_least (m - may) (share + 1) 0 (omega arith) (omega arith) in
      let one : 1 ≤ div_ceil (n - may) (share + 1) = few_batches share (n - may) 1 (omega arith) in
      omega arith
]

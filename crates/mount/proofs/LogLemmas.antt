-- A log with one operation more.
use Rattle.std.proofs.Common.{◌≡◌, ◌≢◌, ℕ, ◌+◌, Bool, true, false, cond, List, [], ◌∷◌, ◌++◌, refl, ◌∙◌, ap, arith}
use Rattle.std.specs.Prelude.{◌==◌, ◌||◌, ◌&&◌}
use Rattle.std.proofs.lemmas.Bool.{ne_eqb, eq-eqb, and_left, and_right}
use Rattle.std.proofs.lemmas.List.Sums.{sum_by-append}
use Rattle.std.proofs.Math.Bool.{or-false, or-true}
use Rattle.page_layout.specs.Flash.{Operation}
use Rattle.promises.specs.Log.{block_of, failed_in}
use Rattle.promises.proofs.LogLemmas.{failed_in-append}
use Rattle.mount.specs.Log.{has_failed, failures}

-- ---- failures

abbrev fails_in : ℕ → ℕ → Operation → Bool
fails_in pages block op = has_failed op && (block_of pages op == block)

failed_in-one : (pages : ℕ) (log : List Operation) (op : Operation) (block : ℕ) → failed_in pages (log ++ op ∷ []) block ≡ (failed_in pages log block || fails_in pages block op)
failed_in-one pages log op block = failed_in-append pages block log (op ∷ []) ∙ ap (λ b. failed_in pages log block || b) (or-false (fails_in pages block op))

-- an operation that passed
pub failed_in-passed : (pages : ℕ) (log : List Operation) (op : Operation) (block : ℕ) → has_failed op ≡ false → failed_in pages (log ++ op ∷ []) block ≡ failed_in pages log block
failed_in-passed pages log op block passed =
    failed_in-one pages log op block ∙ (ap (λ b. failed_in pages log block || b) (and_left (has_failed op) (block_of pages op == block) passed) ∙ or-false (failed_in pages log block))

-- an operation in another block
pub failed_in-other : (pages : ℕ) (log : List Operation) (op : Operation) (block : ℕ) → block_of pages op ≢ block → failed_in pages (log ++ op ∷ []) block ≡ failed_in pages log block
failed_in-other pages log op block ne =
    failed_in-one pages log op block ∙ (ap (λ b. failed_in pages log block || b) (and_right (has_failed op) (block_of pages op == block) (ne_eqb (block_of pages op) block ne)) ∙ or-false (failed_in pages log block))

-- one that failed
pub failed_in-failed : (pages : ℕ) (log : List Operation) (op : Operation) (block : ℕ) → has_failed op ≡ true → block_of pages op ≡ block → failed_in pages (log ++ op ∷ []) block ≡ true
failed_in-failed pages log op block failed is =
    failed_in-one pages log op block ∙ (ap (λ b. failed_in pages log block || b) fails ∙ or-true (failed_in pages log block))
  where
    fails : fails_in pages block op ≡ true
    fails = rw (failed, eq-eqb (block_of pages op) block is) refl

pub failures-passed : (log : List Operation) (op : Operation) → has_failed op ≡ false → failures (log ++ op ∷ []) ≡ failures log
failures-passed log op passed =
    let one : failures (op ∷ []) ≡ 0 = rw passed refl in
    omega (arith, sum_by-append (λ x. cond (has_failed x) 1 0) log (op ∷ []), one)

pub failures-failed : (log : List Operation) (op : Operation) → has_failed op ≡ true → failures (log ++ op ∷ []) ≡ failures log + 1
failures-failed log op failed =
    let one : failures (op ∷ []) ≡ 1 = rw failed refl in
    omega (arith, sum_by-append (λ x. cond (has_failed x) 1 0) log (op ∷ []), one)

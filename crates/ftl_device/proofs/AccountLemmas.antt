-- What the accounts of a legal log bar.
use Rattle.std.proofs.Common.{◌≡◌, ◌<◌, inl, inr, ◌==◌, ℕ, Bool, true, false, not, ◌&&◌, ◌||◌, List, [], ◌∷◌, refl, sym, ◌∙◌, ap, arith, length, map}
use Rattle.std.specs.List.{range_with_len}
use Rattle.std.proofs.Math.Bool.{or_assoc}
use Rattle.std.proofs.lemmas.List.FromFn.{get_or-map-range_with_len, length-map-range_with_len}
use Rattle.std.proofs.lemmas.Bool.Decides.{eqb_tells}
use Rattle.std.proofs.lemmas.Bool.{or_from}
use Rattle.page_layout.specs.Flash.{Operation}
use Rattle.bad_blocks.specs.Table.{is_good_at}
use Rattle.allocation.specs.State.{State, pointer_at}
use Rattle.promises.specs.Log.{block_of, has_passed, failed_in}
use Rattle.promises.specs.Legal.{Account, no_account, account_at, accounted, accounted_all, IsDue, LegalFrom}
use Rattle.promises.proofs.AccountLemmas.{due_good, length-accounted, length-accounted_all, accounted-same, accounted-other, noted-barred}
use Rattle.collection.specs.Log.{IsAccounted, FollowsLog}

-- ---- one operation

-- whether the operation failed on the block
abbrev failed_at : ℕ → Operation → ℕ → Bool
failed_at pages op b = not (has_passed op) && (block_of pages op == b)

on_other : (a same : Bool) → same ≡ false → (not a && same) ≡ false
on_other true same e = refl
on_other false same e = e

here_by : (barred passed same now : Bool) → barred ≡ false → same ≡ true → now ≡ not passed → now ≡ (barred || (not passed && same))
here_by barred true same now was e is = is ∙ sym (ap (λ x. x || false) was)
here_by barred false same now was e is = is ∙ sym (ap (λ x. x || same) was ∙ e)

or_false : (a b : Bool) → b ≡ false → a ≡ (a || b)
or_false true b e = refl
or_false false b e = sym e

barred-step : (pages : ℕ) (accounts : List Account) (op : Operation) (b : ℕ) → IsDue pages accounts op → b < length accounts
    → (account_at (accounted pages accounts op) b).barred ≡ ((account_at accounts b).barred || failed_at pages op b)
barred-step pages accounts op b due lt = elim (eqb_tells (block_of pages op) b) [
  | inl e ↦
      let was : (account_at accounts b).barred ≡ false = ap (λ n. (account_at accounts n).barred) (sym e.1) ∙ due_good pages accounts op due in
      let now : (account_at (accounted pages accounts op) b).barred ≡ not (has_passed op) = ap (λ (a : Account). a.barred) (accounted-same pages accounts op b e.1 lt) ∙ noted-barred (account_at accounts b) op in
      here_by (account_at accounts b).barred (has_passed op) (block_of pages op == b) _ was e.0 now
  | inr e ↦
      ap (λ (a : Account). a.barred) (accounted-other pages accounts op b e.1)
      ∙ or_false (account_at accounts b).barred (failed_at pages op b) (on_other (has_passed op) (block_of pages op == b) e.0)
]

-- ---- a log

-- after a legal log the blocks are barred that were barred before it and those that failed in it
barred-all : (pages : ℕ) (accounts : List Account) (log : List Operation) (b : ℕ) → LegalFrom pages accounts log → b < length accounts
    → (account_at (accounted_all pages accounts log) b).barred ≡ ((account_at accounts b).barred || failed_in pages log b)
barred-all pages accounts [] b legal lt = or_false (account_at accounts b).barred false refl
barred-all pages accounts (op ∷ log) b legal lt =
    barred-all pages (accounted pages accounts op) log b legal.1 (omega (arith, length-accounted pages accounts op, lt))
    ∙ (ap (λ x. x || failed_in pages log b) (barred-step pages accounts op b legal.0 lt)
    ∙ or_assoc (account_at accounts b).barred (failed_at pages op b) (failed_in pages log b))

-- a barred block doesn't fail in it, since nothing is done in it
barred-never : (pages : ℕ) (accounts : List Account) (log : List Operation) (b : ℕ) → LegalFrom pages accounts log → (account_at accounts b).barred ≡ true → failed_in pages log b ≡ false
barred-never pages accounts [] b legal barred = refl
barred-never pages accounts (op ∷ log) b legal barred = elim (eqb_tells (block_of pages op) b) [
  | inl e ↦
      let was : (account_at accounts b).barred ≡ false = ap (λ n. (account_at accounts n).barred) (sym e.1) ∙ due_good pages accounts op legal.0 in
      let no : ⊥ = cc in absurd no
  | inr e ↦
      let still : (account_at (accounted pages accounts op) b).barred ≡ true = ap (λ (a : Account). a.barred) (accounted-other pages accounts op b e.1) ∙ barred in
      or_from (failed_at pages op b) (failed_in pages log b) (on_other (has_passed op) (block_of pages op == b) e.0) (barred-never pages (accounted pages accounts op) log b legal.1 still)
]

-- ---- accounts that agree with the blocks in memory

abbrev account_by : State → ℕ → Account
account_by s b = record { next = pointer_at s b; barred = not (is_good_at s.table b) }

abbrev accounts_by : State → List Account
accounts_by s = map (account_by s) (range_with_len 0 s.geometry.blocks)

by_at : (s : State) (b : ℕ) → b < s.geometry.blocks → account_at (accounts_by s) b ≡ account_by s b
by_at s b lt = get_or-map-range_with_len (account_by s) 0 s.geometry.blocks b b no_account lt (omega arith)

agrees : (s : State) → IsAccounted (accounts_by s) s
agrees s = record {
  size = length-map-range_with_len (account_by s) 0 s.geometry.blocks;
  barred = λ b lt. ap (λ (a : Account). a.barred) (by_at s b lt);
  next = λ b lt good. ap (λ (a : Account). a.next) (by_at s b lt);
}

module _ (pages : ℕ) (log : List Operation) (old new : State) (h : FollowsLog pages log old new) (b : ℕ) (lt : b < old.geometry.blocks) where
  was : (account_at (accounts_by old) b).barred ≡ not (is_good_at old.table b)
  was = (agrees old).barred b lt

  legal : LegalFrom pages (accounts_by old) log
  legal = h.legal (accounts_by old) (agrees old)

  -- the bad blocks after a log: those before it, and those that failed in it
  pub bad_after : not (is_good_at new.table b) ≡ (not (is_good_at old.table b) || failed_in pages log b)
  bad_after =
      let size : length (accounts_by old) ≡ old.geometry.blocks = (agrees old).size in
      let after = h.accounted (accounts_by old) (agrees old) in
      let here = after.barred b (omega (arith, after.size, length-accounted_all pages (accounts_by old) log, size, lt)) in
      sym here ∙ (barred-all pages (accounts_by old) log b legal (omega (arith, size, lt)) ∙ ap (λ x. x || failed_in pages log b) was)

  -- none of them fails that was bad before
  pub failed_good : not (is_good_at old.table b) ≡ true → failed_in pages log b ≡ false
  failed_good bad = barred-never pages (accounts_by old) log b legal (was ∙ bad)

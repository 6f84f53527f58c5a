-- Counting good blocks.
use Rattle.std.proofs.Common.{◌≡◌, ℕ, zero, suc, ◌+◌, ◌<◌, ◌≤◌, true, false, cond, List, [], ◌∷◌, length, get_or, set, refl, ◌∙◌, ap, arith}
use Rattle.std.specs.Prelude.{count_by}
use Rattle.std.proofs.Math.ListN.{get_or-map}
use Rattle.std.proofs.lemmas.List.{length-map}
use Rattle.std.proofs.lemmas.List.Sums.{sum_by-cons, count_by-le-length}
use Rattle.bad_blocks.specs.declared.class.Class.{Class}
use Rattle.bad_blocks.specs.declared.class.Class.TheVariants.{Good, Factory, Grown}
use Rattle.bad_blocks.specs.declared.table.TableRow.{TableRow}
use Rattle.bad_blocks.specs.Table.{is_good, is_good_class, is_good_at, good_count, retired, unworn}
use Rattle.page_layout.proofs.CountLemmas.{count_by-map}

-- where no block is good
pub none_good : (rows : List TableRow) → ((b : ℕ) → b < length rows → is_good_at rows b ≡ false) → good_count rows ≡ 0
none_good [] none = refl
none_good (row ∷ rows) none =
    let here : is_good row ≡ false = none 0 (omega arith) in
    let one : ◌≡◌ {A = ℕ} (cond (is_good row) 1 0) 0 = rw here refl in
    let rest : good_count rows ≡ 0 = none_good rows (λ b l. none (suc b) (omega arith)) in
    omega (arith, sum_by-cons (λ x. cond (is_good x) 1 0) row rows, one, rest)

-- a block that fails is one good block less
pub good_count-retired : (rows : List TableRow) (b : ℕ) → b < length rows → is_good_at rows b ≡ true → good_count (retired rows b) + 1 ≡ good_count rows
good_count-retired [] b l good = absurd (omega arith)
good_count-retired (row ∷ rows) zero l good =
    let grown : TableRow = record { class = Grown; wear = row.wear } in
    let here : is_good row ≡ true = good in
    let one : ◌≡◌ {A = ℕ} (cond (is_good row) 1 0) 1 = rw here refl in
    omega (arith, sum_by-cons (λ x. cond (is_good x) 1 0) row rows, sum_by-cons (λ x. cond (is_good x) 1 0) grown rows, one)
good_count-retired (row ∷ rows) (suc b) l good =
    let rest : good_count (retired rows b) + 1 ≡ good_count rows = good_count-retired rows b (omega arith) good in
    omega (arith, sum_by-cons (λ x. cond (is_good x) 1 0) row rows, sum_by-cons (λ x. cond (is_good x) 1 0) row (retired rows b), rest)

pub good_class : (class : Class) → is_good_class class ≡ true → class ≡ Good
good_class Good good = refl
good_class Factory good = absurd (cc good)
good_class Grown good = absurd (cc good)

-- ---- blocks that were never erased

abbrev row_of : Class → TableRow
row_of class = record { class = class; wear = 0 }

pub unworn_is_good_at : (classes : List Class) (b : ℕ) → is_good_at (unworn classes) b ≡ is_good_class (get_or classes b Good)
unworn_is_good_at classes b = ap is_good (get_or-map row_of classes b Good)

pub unworn_length : (classes : List Class) → length (unworn classes) ≡ length classes
unworn_length classes = length-map classes row_of

pub unworn_good_count : (classes : List Class) → good_count (unworn classes) ≡ count_by is_good_class classes
unworn_good_count classes = count_by-map is_good row_of classes

pub unworn_retired : (classes : List Class) (b : ℕ) → unworn (set classes b Grown) ≡ retired (unworn classes) b
unworn_retired [] b = refl
unworn_retired (class ∷ classes) zero = refl
unworn_retired (class ∷ classes) (suc b) = ap (λ (rows : List TableRow). row_of class ∷ rows) (unworn_retired classes b)

-- no more are good than there are
pub good_fits : (classes : List Class) (good blocks : ℕ) → good ≡ good_count (unworn classes) → length classes ≡ blocks → good ≤ blocks
good_fits classes good blocks is whole =
    let most : count_by is_good_class classes ≤ length classes = count_by-le-length is_good_class classes in
    let counted : good ≡ count_by is_good_class classes = is ∙ unworn_good_count classes in
    omega (arith, most, counted, whole)

pub some_good : (need good : ℕ) → 0 < need → need ≤ good → 0 < good
some_good need good some enough = omega (arith, some, enough)

pub fewer_good : (need left good : ℕ) → left + 1 ≡ good → need ≤ good → need ≤ left + 1
fewer_good need left good fewer enough = omega (arith, fewer, enough)

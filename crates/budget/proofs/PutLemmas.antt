-- A page with its retries.
use Rattle.std.proofs.Common.{◌≡◌, ℕ, ◌+◌, ◌*◌, ◌<◌, ◌≤◌, ◌⊎◌, inl, inr, refl, ap, ◌∙◌, arith, add-one}
use Rattle.std.proofs.Math.Nat.{suc-mul, add-mul}
use Rattle.budget.specs.declared.stream.Stream.{Stream}
use Rattle.budget.specs.declared.stream.Stream.TheVariants.{Data, Meta}
use Rattle.budget.specs.Counts.{Counts, left_of, pool, FitsGoodBlocks}
use Rattle.budget.specs.Put.{Tried, Put, StreamPut, NoneFree}
use Rattle.budget.specs.Laws.{FirstTryLaw, FailedTryLaw, PassedTryLaw, NoTryLaw}

pub first_try : FirstTryLaw
first_try stream s = record { tried = record { cases = inl (refl, refl, refl) }; good = omega arith; other = refl }

failed_cases : (f free left free0 left0 free1 left1 : ℕ) → Tried f free left free0 left0 → left1 ≡ 0 → ((0 < left0) × (free1 ≡ free0)) ⊎ ((left0 ≡ 0) × (free0 ≡ free1 + 1)) → Tried (f + 1) free left free1 left1
failed_cases f free left free0 left0 free1 left1 t none cases = grind (arith, t.cases)

pub failed_try : FailedTryLaw
failed_try stream f old now new t fails = record {
  tried = failed_cases f old.free (left_of old stream) now.free (left_of now stream) new.free (left_of new stream) t.tried fails.none_left fails.cases;
  good = omega (arith, t.good, fails.good);
  other = fails.other ∙ t.other;
}

passed_cases : (pages f free left free0 left0 free1 left1 : ℕ) → left < pages → Tried f free left free0 left0 → ((0 < left0) × (free1 ≡ free0) × (left1 + 1 ≡ left0)) ⊎ ((left0 ≡ 0) × (free0 ≡ free1 + 1) × (left1 + 1 ≡ pages)) → Put pages f free left free1 left1
passed_cases pages f free left free0 left0 free1 left1 lt t cases = grind (arith, t.cases)

-- an open block has less than a block of pages over
pub left_fits : (pages : ℕ) (s : Counts) (stream : Stream) → FitsGoodBlocks pages s → left_of s stream < pages
left_fits pages s Data fits = omega (arith, fits.data_open)
left_fits pages s Meta fits = omega (arith, fits.meta_open)

pub passed_try : PassedTryLaw
passed_try stream pages f old now new fits t takes = record {
  put = passed_cases pages f old.free (left_of old stream) now.free (left_of now stream) new.free (left_of new stream) (left_fits pages old stream fits) t.tried takes.cases;
  good = omega (arith, t.good, takes.good);
  other = takes.other ∙ t.other;
}

none_cases : (f free left free0 left0 : ℕ) → Tried f free left free0 left0 → free0 ≡ 0 → left0 ≡ 0 → NoneFree f free left
none_cases f free left free0 left0 t none shut = grind (arith, t.cases)

pub no_try : NoTryLaw
no_try stream f old now t none shut = record {
  none = none_cases f old.free (left_of old stream) now.free (left_of now stream) t.tried none shut;
  good = t.good;
}

-- ---- what a put costs
pub put_opens : (pages f free left free' left' : ℕ) → Put pages f free left free' left' → free' ≤ free
put_opens pages f free left free' left' put = elim put.cases [ inl c ↦ omega (arith, c.2) | inr r ↦ elim r [ inl c ↦ omega (arith, c.3) | inr c ↦ omega (arith, c.2) ] ]

pub put_stays : (pages f free left free' left' : ℕ) → left < pages → Put pages f free left free' left' → left' < pages
put_stays pages f free left free' left' lt put = elim put.cases [ inl c ↦ omega (arith, c.1) | inr r ↦ elim r [ inl c ↦ omega (arith, c.0) | inr c ↦ omega (arith, c.0) ] ]

pub put_pays : (pages f free left free' left' : ℕ) → left < pages → Put pages f free left free' left' → free * pages + left ≤ free' * pages + left' + 1 + f * pages
put_pays pages f free left free' left' lt put = elim put.cases [
  | inl c ↦ let e : free * pages ≡ free' * pages = ap (λ x. x * pages) c.2 in omega (arith, c.1)
  | inr r ↦ elim r [
    | inl c ↦ let e : free * pages ≡ (free' + f) * pages = ap (λ x. x * pages) c.3 in let s : (free' + f) * pages ≡ free' * pages + f * pages = add-mul free' f pages in omega (arith, c.0)
    | inr c ↦ let e : free * pages ≡ (free' + f + 1) * pages = ap (λ x. x * pages) c.2 in let s : (free' + f + 1) * pages ≡ free' * pages + f * pages + pages = rw add-one (rw suc-mul (ap (λ x. x + pages) (add-mul free' f pages))) in omega (arith, c.0, c.1)
  ]
]

-- the pool falls by the page, and by a block for each failure
pub pool_put : (stream : Stream) (pages f : ℕ) (old new : Counts) → left_of old stream < pages → StreamPut stream pages f old new → pool pages old ≤ pool pages new + 1 + f * pages
pool_put Data pages f old new lt p = omega (arith, put_pays pages f old.free old.data_left new.free new.data_left lt p.put, p.other)
pool_put Meta pages f old new lt p = omega (arith, put_pays pages f old.free old.meta_left new.free new.meta_left lt p.put, p.other)

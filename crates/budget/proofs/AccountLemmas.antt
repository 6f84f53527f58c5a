-- Some pages, and a collection, page by page.
use Rattle.std.proofs.Common.{◌≡◌, ℕ, suc, ◌+◌, ◌-◌, ◌*◌, ◌<◌, ◌≤◌, ◌⊎◌, inl, inr, ⊎_elim, refl, sym, ap, subst, arith, add-one}
use Rattle.std.proofs.Math.Nat.{suc-mul, mul-le-mul_left, mul_comm, add-mul}
use Rattle.budget.specs.declared.stream.Stream.TheVariants.{Data, Meta}
use Rattle.budget.specs.Put.{Put, NoneFree}
use Rattle.budget.specs.Spending.{OpensBlocks}
use Rattle.budget.specs.Laws.{NoPageLaw, OnePageSpentLaw, OpeningsLaw, MetaOpeningsLaw, StuckLaw, CollectedLaw}
use Rattle.budget.proofs.PutLemmas.{put_opens, put_stays, put_pays}

pub times_le : (a b p : ℕ) → a ≤ b → a * p ≤ b * p
times_le a b p le = omega (arith, mul-le-mul_left p le, mul_comm p a, mul_comm p b)

-- ---- blocks opened in one stream

-- the open block took the page
opened_stays : (pages programmed openings failures used_up left left' : ℕ) → left ≡ left' + 1 → openings ≤ failures + used_up → (used_up ≡ 0) ⊎ (used_up * pages ≤ left + programmed) → OpensBlocks pages (programmed + 1) failures openings left'
opened_stays pages programmed openings failures used_up left left' eq most each =
    record { used_up = used_up; most = most; each = ⊎_elim (λ none. inl none) (λ le. inr (omega arith)) each }

-- the open block failed
opened_failed : (pages programmed openings failures f used_up left left' : ℕ) → pages ≡ left' + 1 → left < pages → openings ≤ failures + used_up → (used_up ≡ 0) ⊎ (used_up * pages ≤ left + programmed) → OpensBlocks pages (programmed + 1) (failures + f) (openings + f) left'
opened_failed pages programmed openings failures f used_up left left' eq lt most each =
    record { used_up = used_up; most = omega arith; each = ⊎_elim (λ none. inl none) (λ le. inr (omega arith)) each }

-- none was open
opened_new : (pages programmed openings failures f used_up left left' : ℕ) → pages ≡ left' + 1 → left ≡ 0 → openings ≤ failures + used_up → (used_up ≡ 0) ⊎ (used_up * pages ≤ left + programmed) → OpensBlocks pages (programmed + 1) (failures + f) (openings + (f + 1)) left'
opened_new pages programmed openings failures f used_up left left' eq none most each =
    record {
      used_up = used_up + 1;
      most = omega arith;
      each = inr (let h : (used_up + 1) * pages ≡ used_up * pages + pages = rw add-one (suc-mul used_up pages) in
          ⊎_elim (λ (z : used_up ≡ 0). let k : used_up * pages ≡ 0 * pages = ap (λ u. u * pages) z in omega arith) (λ (le : used_up * pages ≤ left + programmed). omega arith) each);
    }

opened_more : (pages programmed failures openings left f free free' left' : ℕ) → left < pages → OpensBlocks pages programmed failures openings left → Put pages f free left free' left' → OpensBlocks pages (programmed + 1) (failures + f) (openings + (free - free')) left'
opened_more pages programmed failures openings left f free free' left' lt opened put =
    let P : ℕ → ℕ → Type 0 = λ a b. OpensBlocks pages (programmed + 1) a b left' in
    elim put.cases [
      | inl c ↦
          let p : P failures openings = opened_stays pages programmed openings failures opened.used_up left left' c.1 opened.most opened.each in
          let e : failures + f ≡ failures = omega (arith, c.0) in
          let o : openings + (free - free') ≡ openings = omega (arith, c.2) in
          rw (e, o) p
      | inr rest ↦ elim rest [
        | inl c ↦
            let o : openings + (free - free') ≡ openings + f = omega (arith, c.3) in
            rw o (opened_failed pages programmed openings failures f opened.used_up left left' c.0 lt opened.most opened.each)
        | inr c ↦
            let o : openings + (free - free') ≡ openings + (f + 1) = omega (arith, c.2) in
            rw o (opened_new pages programmed openings failures f opened.used_up left left' c.0 c.1 opened.most opened.each)
      ]
    ]

-- blocks that were used up, by the pages that they took
bound_up : (n e pages k : ℕ) → e * pages ≤ k → k < suc n * pages → e ≤ n
bound_up n e pages k le lt =
    let never : suc n ≤ e → ⊥ = λ (more : suc n ≤ e). (let h : suc n * pages ≤ e * pages = times_le (suc n) e pages more in omega arith) in
    omega (arith, never)

used_up_at_most : (n pages programmed failures openings left : ℕ) → (o : OpensBlocks pages programmed failures openings left) → left + programmed < suc n * pages → openings ≤ failures + n
used_up_at_most n pages programmed failures openings left o lt =
    let e : o.used_up ≤ n = ⊎_elim (λ (z : o.used_up ≡ 0). omega arith) (λ (le : o.used_up * pages ≤ left + programmed). bound_up n o.used_up pages (left + programmed) le lt) o.each in
    omega (arith, o.most)

-- ---- the account

pub no_page : NoPageLaw
no_page pages s fits = record {
  data_failures = 0;
  meta_failures = 0;
  data_openings = 0;
  meta_openings = 0;
  in_data = record { used_up = 0; most = omega arith; each = inl refl };
  in_meta = record { used_up = 0; most = omega arith; each = inl refl };
  good = omega arith;
  free = omega arith;
  pays = omega arith;
  data_open = omega (arith, fits.data_open);
  meta_open = omega (arith, fits.meta_open);
}

pub one_page : OnePageSpentLaw
one_page Data pages f d m first now next a p = record {
  data_failures = a.data_failures + f;
  meta_failures = a.meta_failures;
  data_openings = a.data_openings + (now.free - next.free);
  meta_openings = a.meta_openings;
  in_data = opened_more pages d a.data_failures a.data_openings now.data_left f now.free next.free next.data_left a.data_open a.in_data p.put;
  in_meta = subst (λ l. OpensBlocks pages (m + 0) a.meta_failures a.meta_openings l) (sym p.other) (subst (λ k. OpensBlocks pages k a.meta_failures a.meta_openings now.meta_left) (omega arith) a.in_meta);
  good = omega (arith, a.good, p.good);
  free = omega (arith, a.free, put_opens pages f now.free now.data_left next.free next.data_left p.put);
  pays = let s : (a.data_failures + f + a.meta_failures) * pages ≡ (a.data_failures + a.meta_failures) * pages + f * pages = rw (add-mul (a.data_failures + f) a.meta_failures pages, add-mul a.data_failures f pages, add-mul a.data_failures a.meta_failures pages) (omega arith) in
      omega (arith, a.pays, p.other, put_pays pages f now.free now.data_left next.free next.data_left a.data_open p.put);
  data_open = put_stays pages f now.free now.data_left next.free next.data_left a.data_open p.put;
  meta_open = omega (arith, a.meta_open, p.other);
}
one_page Meta pages f d m first now next a p = record {
  data_failures = a.data_failures;
  meta_failures = a.meta_failures + f;
  data_openings = a.data_openings;
  meta_openings = a.meta_openings + (now.free - next.free);
  in_data = subst (λ l. OpensBlocks pages (d + 0) a.data_failures a.data_openings l) (sym p.other) (subst (λ k. OpensBlocks pages k a.data_failures a.data_openings now.data_left) (omega arith) a.in_data);
  in_meta = opened_more pages m a.meta_failures a.meta_openings now.meta_left f now.free next.free next.meta_left a.meta_open a.in_meta p.put;
  good = omega (arith, a.good, p.good);
  free = omega (arith, a.free, put_opens pages f now.free now.meta_left next.free next.meta_left p.put);
  pays = let s : (a.data_failures + (a.meta_failures + f)) * pages ≡ (a.data_failures + a.meta_failures) * pages + f * pages = rw (add-mul a.data_failures (a.meta_failures + f) pages, add-mul a.meta_failures f pages, add-mul a.data_failures a.meta_failures pages) (omega arith) in
      omega (arith, a.pays, p.other, put_pays pages f now.free now.meta_left next.free next.meta_left a.meta_open p.put);
  data_open = omega (arith, a.data_open, p.other);
  meta_open = put_stays pages f now.free now.meta_left next.free next.meta_left a.meta_open p.put;
}

pub few_openings : OpeningsLaw
few_openings pages d m first now a room =
    let two : suc 1 * pages ≡ pages + pages = omega arith in
    let in_data : a.data_openings ≤ a.data_failures + 1 = used_up_at_most 1 pages d a.data_failures a.data_openings now.data_left a.in_data (omega (arith, a.data_open)) in
    let in_meta : a.meta_openings ≤ a.meta_failures + 1 = used_up_at_most 1 pages m a.meta_failures a.meta_openings now.meta_left a.in_meta (omega (arith, a.meta_open)) in
    omega (arith, a.free, a.good)

pub few_meta_openings : MetaOpeningsLaw
few_meta_openings pages m blocks first now a room =
    let one : suc 0 * pages ≡ pages = omega arith in
    let more : suc blocks * pages ≡ (blocks + 1) * pages = rw add-one refl in
    let in_data : a.data_openings ≤ a.data_failures + 0 = used_up_at_most 0 pages 0 a.data_failures a.data_openings now.data_left a.in_data (omega (arith, a.data_open)) in
    let in_meta : a.meta_openings ≤ a.meta_failures + blocks = used_up_at_most blocks pages m a.meta_failures a.meta_openings now.meta_left a.in_meta (omega arith) in
    omega (arith, a.free, a.good)

-- the stream of the page that found no free block, and the other one
stuck_sum : (pages f free left d fd od fm om : ℕ) → d + 2 ≤ pages → left < pages → (o : OpensBlocks pages d fd od left) → om ≤ fm + 1 → NoneFree f free left → free + od + om ≤ fd + fm + f + 1
stuck_sum pages f free left d fd od fm om room lt o other stuck =
    let two : suc 1 * pages ≡ pages + pages = omega arith in
    let one : suc 0 * pages ≡ pages = omega arith in
    let most : od ≤ fd + 1 = used_up_at_most 1 pages d fd od left o (omega arith) in
    elim stuck.cases [
      | inl c ↦ omega (arith, c.1)
      | inr c ↦
          let none : left ≡ 0 = c.0 in
          let few : od ≤ fd + 0 = used_up_at_most 0 pages d fd od left o (omega arith) in
          omega (arith, c.1)
    ]

pub stuck : StuckLaw
stuck Data pages f d m first now new a room s = record {
  few =
      let two : suc 1 * pages ≡ pages + pages = omega arith in
      let other : a.meta_openings ≤ a.meta_failures + 1 = used_up_at_most 1 pages m a.meta_failures a.meta_openings now.meta_left a.in_meta (omega (arith, a.meta_open)) in
      omega (arith, a.free, a.good, s.good, stuck_sum pages f now.free now.data_left d a.data_failures a.data_openings a.meta_failures a.meta_openings (omega arith) a.data_open a.in_data other s.none);
}
stuck Meta pages f d m first now new a room s = record {
  few =
      let two : suc 1 * pages ≡ pages + pages = omega arith in
      let other : a.data_openings ≤ a.data_failures + 1 = used_up_at_most 1 pages d a.data_failures a.data_openings now.data_left a.in_data (omega (arith, a.data_open)) in
      omega (arith, a.free, a.good, s.good, stuck_sum pages f now.free now.meta_left m a.meta_failures a.meta_openings a.data_failures a.data_openings (omega arith) a.meta_open a.in_meta other s.none);
}

pub collected : CollectedLaw
collected pages f d m first now next a room e fits = record {
  failures = a.data_failures + a.meta_failures + f;
  good = omega (arith, a.good, e.good);
  pays = let p : (next.free + f) * pages ≡ (now.free + 1) * pages = ap (λ x. x * pages) e.free in
      let q : (next.free + f) * pages ≡ next.free * pages + f * pages = add-mul next.free f pages in
      let r : (now.free + 1) * pages ≡ now.free * pages + pages = rw add-one (suc-mul now.free pages) in
      let s : (a.data_failures + a.meta_failures + f) * pages ≡ (a.data_failures + a.meta_failures) * pages + f * pages = add-mul (a.data_failures + a.meta_failures) f pages in
      omega (arith, a.pays, e.data_same, e.meta_same);
  fits = fits;
}

-- Room for a flush: with share 0 it is made before each page, and above it once, as the flush begins.
use Rattle.std.proofs.Common.{◌≡◌, ◌⊎◌, inl, inr, ℕ, zero, suc, ◌+◌, ◌<◌, ◌≤◌, Option, Some, None, Result, Ok, Err, IfErr, OnOk, refl, sym, ◌∙◌, ap, subst, arith}
use Rattle.std.proofs.lemmas.Bool.{cases_lt}
use Rattle.page_layout.specs.declared.geometry.Geometry.{Geometry}
use Rattle.page_layout.specs.Geometry.{translation_pages}
use Rattle.bad_blocks.specs.Table.{good_count}
use Rattle.budget.specs.declared.stream.Stream.TheVariants.{Meta}
use Rattle.budget.specs.Counts.{Counts, FitsGoodBlocks}
use Rattle.budget.specs.Spending.{Spending, IsFunded}
use Rattle.budget.proofs.AccountLemmas.{no_page}
use Rattle.budget.proofs.RoomLemmas.{flush_leaves}
use Rattle.allocation.specs.State.{free_count}
use Rattle.allocation.specs.Counts.{counts_of}
use Rattle.allocation.proofs.TallyLemmas.{fits}
use Rattle.collection.specs.declared.fault.EngineFault.{EngineFault}
use Rattle.collection.specs.declared.fault.EngineFault.TheVariants.{ReadOnly, SequenceSpent, Damaged, Bus}
use Rattle.collection.specs.declared.engine.room.Reserve.TheVariants as reserve
use Rattle.collection.specs.State.{Ram}
use Rattle.collection.specs.Safe.{IsRam}
use Rattle.collection.specs.Room.{wanted}
use Rattle.collection.specs.Cost.{HasPut, WriteBackCosts}
use Rattle.collection.specs.Collect.{RoomCounts}
use Rattle.collection.specs.Results.{fault_after}
use Rattle.ftl_device.specs.declared.fault.CallFault.{CallFault}
use Rattle.ftl_device.specs.declared.fault.CallFault.TheVariants.{Engine}
use Rattle.ftl_device.specs.Calls.{TellsByMemory}
use Rattle.ftl_device.specs.Flush.{AddsPages, AddsAtMost, FailsAmong, WritesTables, RunsOut}
use Rattle.ftl_device.specs.Shortage.{LacksGood, SpendsPages, FlushCounts, FlushShort}
use Rattle.ftl_device.proofs.FlushLoops.{pages_none, pages_more, free_most}
use Rattle.ftl_device.proofs.ShortageLemmas.{tables_leave}

-- ---- translation pages, above share 0

pub adds_none : (most : ℕ) (r : Ram) → AddsAtMost most r r
adds_none most r = record { pages = 0; few = omega arith; fewer = omega arith; adds = pages_none r }

adds_put : (a b : Ram) → HasPut Meta a b → AddsAtMost 1 a b
adds_put a b p = record {
  pages = 1;
  few = omega arith;
  fewer = (let lost : good_count a.blocks.table ≡ good_count b.blocks.table + p.failures = p.put.good in omega (arith, lost));
  adds = pages_more 0 a a b refl (pages_none a) p;
}

pages_then : (j k : ℕ) (a b c : Ram) → b.geometry ≡ a.geometry → AddsPages j a b → AddsPages k b c → AddsPages (j + k) a c
pages_then j k a b c same x y = record {
  account = λ first pages acc.
      let P : Geometry → Type 0 = λ g. Spending g.pages first (counts_of b.blocks) 0 (pages + j) → Spending g.pages first (counts_of c.blocks) 0 (pages + j + k) in
      let step : P a.geometry = subst P same (y.account first (pages + j)) in
      let e : pages + j + k ≡ pages + (j + k) = omega arith in
      subst (λ n. Spending a.geometry.pages first (counts_of c.blocks) 0 n) e (step (x.account first pages acc));
}

adds_then : (most more : ℕ) (a b c : Ram) → b.geometry ≡ a.geometry → AddsAtMost most a b → AddsAtMost more b c → AddsAtMost (most + more) a c
adds_then most more a b c same x y = record {
  pages = x.pages + y.pages;
  few = omega (arith, x.few, y.few);
  fewer = omega (arith, x.fewer, y.fewer);
  adds = pages_then x.pages y.pages a b c same x.adds y.adds;
}

-- one after another
pub spends_then : (most more : ℕ) (result : Result (Unit {0}) EngineFault) (a b c : Ram) → b.geometry ≡ a.geometry → AddsAtMost most a b → SpendsPages more b c result → SpendsPages (most + more) a c result
spends_then most more (Ok done) a b c same x h = adds_then most more a b c same x h
spends_then most more (Err ReadOnly) a b c same x (inl few) = inl (adds_then most more a b c same x few.0, few.1)
spends_then most more (Err ReadOnly) a b c same x (inr fails) = inr
    (record {
      mid = fails.mid;
      geometry = fails.geometry ∙ same;
      pages = x.pages + fails.pages;
      few = omega (arith, x.few, fails.few);
      fewer = omega (arith, x.fewer, fails.fewer);
      used = pages_then x.pages fails.pages a b fails.mid same x.adds fails.used;
      out = fails.out;
    })
spends_then most more (Err SequenceSpent) a b c same x h = tt
spends_then most more (Err Damaged) a b c same x h = tt
spends_then most more (Err Bus) a b c same x h = tt

-- so many are no more than that
pub spends_most : (few most : ℕ) (result : Result (Unit {0}) EngineFault) (a b : Ram) → few ≤ most → SpendsPages few a b result → SpendsPages most a b result
spends_most few most (Ok done) a b le x = record { pages = x.pages; few = omega (arith, le, x.few); fewer = x.fewer; adds = x.adds }
spends_most few most (Err ReadOnly) a b le (inl x) = inl (record { pages = x.0.pages; few = omega (arith, le, x.0.few); fewer = x.0.fewer; adds = x.0.adds }, x.1)
spends_most few most (Err ReadOnly) a b le (inr x) = inr (record { mid = x.mid; geometry = x.geometry; pages = x.pages; few = omega (arith, le, x.few); fewer = x.fewer; used = x.used; out = x.out })
spends_most few most (Err SequenceSpent) a b le h = tt
spends_most few most (Err Damaged) a b le h = tt
spends_most few most (Err Bus) a b le h = tt

-- a translation page is written back
pub spends_back : (result : Result (Unit {0}) EngineFault) (a b : Ram) → WriteBackCosts a b result → SpendsPages 1 a b result
spends_back (Ok done) a b h = adds_put a b h
spends_back (Err ReadOnly) a b h = inr (record { mid = a; geometry = refl; pages = 0; few = omega arith; fewer = omega arith; used = pages_none a; out = h })
spends_back (Err SequenceSpent) a b h = tt
spends_back (Err Damaged) a b h = tt
spends_back (Err Bus) a b h = tt

adds_noted : (fault : Option EngineFault) (a : Ram) → AddsAtMost 0 a (record a { fault = fault })
adds_noted fault a = record { pages = 0; few = omega arith; fewer = omega arith; adds = record { account = λ first pages acc. (let e : pages + 0 ≡ pages = omega arith in rw e acc) } }

-- five blocks have to be free
pub spends_free : (result : Result (Unit {0}) EngineFault) (a b : Ram) → b ≡ record a { fault = fault_after None result } → IfErr result (λ fault. (fault ≡ ReadOnly) × (free_count a.blocks < 5)) → SpendsPages 0 a b result
spends_free (Ok done) a b is scarce = subst (AddsAtMost 0 a) (sym is) (adds_noted None a)
spends_free (Err fault) a b is scarce =
    let P : Ram → Type 0 = λ r. AddsAtMost 0 a r × (free_count r.blocks < 5) in
    subst (λ f. SpendsPages 0 a b (Err f)) (sym scarce.0) (inl (subst P (sym is) (adds_noted (Some fault) a, scarce.1)))

-- with share 0 a flush wants what a call does
pub wants_nine : (r : Ram) → r.mapping.share ≡ 0 → wanted reserve.Flush r ≡ 9
wants_nine r none = rw none refl

-- ---- room for the table pages

-- nine blocks are free, unless too few are good or three have failed
abbrev pub HasTableRoom : Ram → Ram → Type 0
HasTableRoom a d = LacksGood a d ⊎ ((9 ≤ free_count d.blocks) × (good_count d.blocks.table ≤ good_count a.blocks.table))

pub tables_done : (a d e : Ram) → HasTableRoom a d → good_count e.blocks.table ≤ good_count d.blocks.table → WritesTables d e → FlushShort a e (Ok tt)
tables_done a d e (inl (inl few)) less w = inl (inl (omega (arith, few, less)))
tables_done a d e (inl (inr three)) less w = inl (inr (omega (arith, three, less)))
tables_done a d e (inr free) less w = elim (tables_leave d e free.0 w).five [ inl five ↦ inr (inr five) | inr two ↦ inr (inl (omega (arith, free.1, two))) ]

pub tables_stuck : (a d e : Ram) → HasTableRoom a d → good_count e.blocks.table ≤ good_count d.blocks.table → RunsOut d e → LacksGood a e
tables_stuck a d e (inl (inl few)) less out = inl (omega (arith, few, less))
tables_stuck a d e (inl (inr three)) less out = inr (omega (arith, three, less))
tables_stuck a d e (inr free) less out = inr (omega (arith, free.0, free.1, out))

-- above share 0 the flush began with as many free blocks as it wants
module _ (a b : Ram) (some : 0 < a.mapping.share) (safe : IsRam b) (same : b.geometry ≡ a.geometry) (share : b.mapping.share ≡ a.mapping.share) where
  pub begin_refused : (fault : EngineFault) → RoomCounts (wanted reserve.Flush a) 0 a b (Err fault) → FlushShort a b (Err (Engine fault))
  begin_refused ReadOnly h = elim h [ inl few ↦ inl (omega (arith, few)) | inr three ↦ inr (omega (arith, three)) ]
  begin_refused SequenceSpent h = tt
  begin_refused Damaged h = tt
  begin_refused Bus h = tt

  module _ (room : RoomCounts (wanted reserve.Flush a) 0 a b (Ok tt)) where
    spent : (c : Ram) (x : AddsAtMost (translation_pages b.geometry) b c) → Spending b.geometry.pages (counts_of b.blocks) (counts_of c.blocks) 0 x.pages
    spent c x =
        let here : FitsGoodBlocks b.geometry.pages (counts_of b.blocks) = subst (λ (g : Geometry). FitsGoodBlocks g.pages (counts_of b.blocks)) safe.blocks_of (fits (free_count b.blocks) b.blocks safe.blocks) in
        let e : 0 + x.pages ≡ x.pages = omega arith in
        subst (λ n. Spending b.geometry.pages (counts_of b.blocks) (counts_of c.blocks) 0 n) e (x.adds.account (counts_of b.blocks) 0 (no_page b.geometry.pages (counts_of b.blocks) here))

    pub pages_leave : (c : Ram) → AddsAtMost (translation_pages b.geometry) b c → HasTableRoom a c
    pages_leave c x = elim room.wanted [
      | inl few ↦ inl (inl (omega (arith, few, x.fewer)))
      | inr free ↦ elim (cases_lt (good_count c.blocks.table + 2) (good_count b.blocks.table)) [
        | inl lost ↦ inl (inr (omega (arith, lost, room.good)))
        | inr kept ↦
            let wants : wanted reserve.Flush b ≡ wanted reserve.Flush a = rw (same, share) refl in
            inr (
              flush_leaves b.geometry b.mapping.share x.pages (counts_of b.blocks) (counts_of c.blocks) (omega (arith, some, share)) (omega (arith, free, wants)) x.few (spent c x) (omega (arith, kept)),
              omega (arith, x.fewer, room.good),
            )
      ]
    ]

    pub pages_refused : (fault : EngineFault) (c : Ram) → SpendsPages (translation_pages b.geometry) b c (Err fault) → FlushShort a c (Err (Engine fault))
    pages_refused ReadOnly c (inl few) = elim (pages_leave c few.0) [ inl lacks ↦ lacks | inr free ↦ absurd (omega (arith, few.1, free.0)) ]
    pages_refused ReadOnly c (inr fails) =
        let so_far : AddsAtMost (translation_pages b.geometry) b fails.mid = record { pages = fails.pages; few = omega (arith, fails.few); fewer = fails.fewer; adds = fails.used } in
        let lost : good_count fails.mid.blocks.table ≡ good_count c.blocks.table + fails.out.failures = fails.out.found.good in
        elim (pages_leave fails.mid so_far) [
          | inl (inl few) ↦ inl (omega (arith, few, lost))
          | inl (inr three) ↦ inr (omega (arith, three, lost))
          | inr free ↦ (let gone = free_most fails.out.failures (free_count fails.mid.blocks) (counts_of fails.mid.blocks).meta_left fails.out.found.none in inr (omega (arith, gone, lost, free.0, free.1)))
        ]
    pages_refused SequenceSpent c h = tt
    pages_refused Damaged c h = tt
    pages_refused Bus c h = tt

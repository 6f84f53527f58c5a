-- The order in which a flush programs translation pages.
use Rattle.std.proofs.Common.{◌≡◌, ◌≢◌, inl, inr, ℕ, zero, suc, ◌+◌, ◌/◌, ◌≤◌, Bool, true, List, [], ◌∷◌, refl, sym, ◌∙◌, ap, subst, arith}
use Rattle.std.proofs.lemmas.Bool.{cases_eq, cases_lt}
use Rattle.page_layout.specs.View.{View}
use Rattle.page_layout.specs.declared.geometry.Geometry.{Geometry}
use Rattle.page_layout.specs.Geometry.{entries, table_pages}
use Rattle.page_layout.specs.declared.record.Kind.TheVariants as kind
use Rattle.bad_blocks.specs.Table.{good_count}
use Rattle.budget.specs.declared.stream.Stream.TheVariants.{Meta}
use Rattle.mapping_cache.specs.Mapping.{MappingState, IsMapping, per_page, pending, cleaned}
use Rattle.mapping_cache.proofs.Steps.{IsMapping-cleaned, pending-cleaned_other}
use Rattle.allocation.specs.State.{free_count}
use Rattle.collection.specs.declared.engine.Engine.{Engine}
use Rattle.collection.specs.declared.engine.collect_in_turns.Step.{Step}
use Rattle.collection.specs.declared.engine.collect_in_turns.Step.TheVariants as steps
use Rattle.collection.specs.State.{Ram}
use Rattle.collection.specs.Safe.{IsRam, ram, page_in_buffer}
use Rattle.collection.specs.Results.{IsLastPage}
use Rattle.collection.specs.Cost.{HasPut}
use Rattle.collection.specs.Collect.{LeadTo}
use Rattle.collection.specs.Room.{Collects}
use Rattle.ftl_device.specs.Flush.{IsClean}
use Rattle.ftl_device.proofs.FlushStepLemmas.{cleared_rests}
use Rattle.ftl_device.specs.FlushSteps.{BringsUp, HasCleared, FlushesPage, FlushesPages, WritesFirst}
use Rattle.device_laws.specs.FlushOrder.{HighestLastLaw, LastTableLaw, SpelledTableLaw}

abbrev good_in : Ram → ℕ
good_in r = good_count r.blocks.table

abbrev free_in : Ram → ℕ
free_in r = free_count r.blocks

-- ---- no block becomes good

good_lead : (flushing : Bool) (taken : List Step) (a b : Ram) → LeadTo flushing a taken b → good_in b ≤ good_in a
good_lead flushing [] a b h = (let same : good_in b ≡ good_in a = ap good_in h in omega (arith, same))
good_lead flushing (steps.Copied ∷ before) a b h =
    let less = good_lead flushing before a h.0 h.1 in
    let put : good_in h.0 ≡ good_in b + h.2.put.failures = h.2.put.put.good in
    omega (arith, less, put)
good_lead flushing (steps.WroteBack ∷ before) a b h =
    let less = good_lead flushing before a h.0 h.1 in
    let put : good_in h.0 ≡ good_in b + h.2.put.failures = h.2.put.put.good in
    omega (arith, less, put)
good_lead flushing (steps.Erased ∷ before) a b h = absurd h

good_collects : (many : ℕ) (flushing : Bool) (blocks : List ℕ) (a b : Ram) → Collects many flushing a blocks b → good_in b ≤ good_in a
good_collects many flushing [] a b h = (let same : good_in b ≡ good_in a = ap good_in h in omega (arith, same))
good_collects many flushing (block ∷ before) a b h =
    let its = h.3 in
    let less = good_collects many flushing before a h.0 h.1 in
    let led = good_lead flushing its.ledger.steps_taken h.0 its.mid its.ledger.lead in
    let erase : good_in its.mid ≡ good_in b + its.erase.failures = its.erase.counts.good in
    omega (arith, less, led, erase)

-- a page takes one free block at most, and one for each failure
put_takes : (a b : Ram) → HasPut Meta a b → free_in a + good_in b ≤ free_in b + good_in a + 1
put_takes a b put = elim put.put.put.cases [
  | inl same ↦ (let free : free_in a ≡ free_in b = same.2 in let good : good_in a ≡ good_in b + put.failures = put.put.good in omega (arith, free, good))
  | inr others ↦ elim others [
    | inl later ↦ (let free : free_in a ≡ free_in b + put.failures = later.3 in let good : good_in a ≡ good_in b + put.failures = put.put.good in omega (arith, free, good))
    | inr fresh ↦ (let free : free_in a ≡ free_in b + put.failures + 1 = fresh.2 in let good : good_in a ≡ good_in b + put.failures = put.put.good in omega (arith, free, good))
  ]
]

module _ {N : Type 0} (view : View N) where
  cleared_falls : (a b : Engine N) → HasCleared view a b → good_in (ram b) ≤ good_in (ram a)
  cleared_falls a b cleared = elim (cases_eq a.mapping.share 0) [
    | inl none ↦ (let room = (cleared.room none).collects in good_collects 9 true room.0 (ram a) (ram b) room.1)
    | inr some ↦ (let same : good_in (ram b) ≡ good_in (ram a) = ap (λ (e : Engine N). good_in (ram e)) (cleared.still (omega (arith, some))).0 in omega (arith, same))
  ]

  brought_falls : (t : ℕ) (a b : Engine N) → BringsUp view t a b → good_in (ram b) ≤ good_in (ram a)
  brought_falls t a b its =
      let less = cleared_falls a its.mid its.cleared in
      let put : good_in (ram its.mid) ≡ good_in (ram b) + its.back.put.failures = its.back.put.put.good in
      omega (arith, less, put)

  good_falls : (t : ℕ) (a b : Engine N) → FlushesPage view t a b → good_in (ram b) ≤ good_in (ram a)
  good_falls t a b h = elim (cases_lt (good_in (ram a)) (good_in (ram b))) [
    | inl more ↦ absurd (
        let lacks : IsClean a.geometry t a.mapping → ⊥ = λ clean. (let same : good_in (ram b) ≡ good_in (ram a) = ap (λ (e : Engine N). good_in (ram e)) (h.clean clean) in omega (arith, more, same)) in
        let less = brought_falls t a b (h.lacking lacks) in
        omega (arith, more, less))
    | inr le ↦ le
  ]

  -- what is so once the first k pages have had their turn: the others lack what they lacked, and so many blocks are free
  record IsAsBefore (k : ℕ) (old now : Engine N) : Type 0 where
    sized : now.geometry ≡ old.geometry
    mapping : IsMapping now.mapping
    mapping_of : now.mapping.geometry ≡ old.geometry
    lacking : (n : ℕ) → k ≤ n / entries old.geometry → pending now.mapping n ≡ pending old.mapping n
    free : free_in (ram old) + good_in (ram now) ≤ free_in (ram now) + k + good_in (ram old)

  first_of : (old : Engine N) → IsRam (ram old) → IsAsBefore 0 old old
  first_of old safe = record { sized = refl; mapping = safe.mapping; mapping_of = safe.mapping_of; lacking = λ n at. refl; free = omega arith }

  kept_on : (k : ℕ) (old mid now : Engine N) → IsAsBefore k old mid → now ≡ mid → IsAsBefore (suc k) old now
  kept_on k old mid now is same = subst (λ e. IsAsBefore (suc k) old e) (sym same) (record {
    sized = is.sized;
    mapping = is.mapping;
    mapping_of = is.mapping_of;
    lacking = λ n at. is.lacking n (omega (arith, at));
    free = (let free = is.free in omega (arith, free));
  })

  brought_on : (k : ℕ) (old mid now : Engine N) → IsAsBefore k old mid → 9 ≤ free_in (ram mid) → BringsUp view k mid now → IsAsBefore (suc k) old now
  brought_on k old mid now is nine its = record {
    sized = its.back.blocks.geometry ∙ (ap (λ (r : Ram). r.geometry) rests ∙ is.sized);
    mapping = subst (λ (m : MappingState). IsMapping m) (sym cleans) (IsMapping-cleaned mid.mapping k is.mapping);
    mapping_of = ap (λ (m : MappingState). m.geometry) cleans ∙ is.mapping_of;
    lacking = λ n at.
        let per : per_page mid.mapping ≡ entries old.geometry = ap entries is.mapping_of in
        let other : n / per_page mid.mapping ≢ k = λ here. (let there : n / entries old.geometry ≡ k = ap (λ e. n / e) (sym per) ∙ here in omega (arith, at, there)) in
        ap (λ (m : MappingState). pending m n) cleans ∙ (pending-cleaned_other mid.mapping k is.mapping n other ∙ is.lacking n (omega (arith, at)));
    free =
        let before = is.free in
        let takes : free_in (ram its.mid) + good_in (ram now) ≤ free_in (ram now) + good_in (ram its.mid) + 1 = put_takes (ram its.mid) (ram now) its.back.put in
        let free_same : free_in (ram its.mid) ≡ free_in (ram mid) = ap free_in rests in
        let good_same : good_in (ram its.mid) ≡ good_in (ram mid) = ap good_in rests in
        omega (arith, before, takes, free_same, good_same);
  }
    where
      rests : ram its.mid ≡ ram mid
      rests = cleared_rests view mid its.mid nine its.cleared

      cleans : now.mapping ≡ cleaned mid.mapping k
      cleans = its.back.mapping ∙ ap (λ (r : Ram). cleaned r.mapping k) rests

  -- it cannot be that it is not so; whether a page lacks a row is not told apart here
  as_before : (k t good : ℕ) (old now : Engine N) → IsRam (ram old) → k ≤ t → 9 + t + good_in (ram old) ≤ free_in (ram old) + good → good ≤ good_in (ram now) → FlushesPages view k old now → (IsAsBefore k old now → ⊥) → ⊥
  as_before zero t good old now safe le free least h never = never (subst (λ e. IsAsBefore 0 old e) (sym h) (first_of old safe))
  as_before (suc k) t good old now safe le free least h never =
      let falls = good_falls k h.0 now h.2 in
      as_before k t good old h.0 safe (omega (arith, le)) free (omega (arith, least, falls)) h.1 (λ is.
      let lacks : IsClean h.0.geometry k h.0.mapping → ⊥ = λ clean. never (kept_on k old h.0 now is (h.2.clean clean)) in
      let so_far = is.free in
      let nine : 9 ≤ free_in (ram h.0) = omega (arith, le, free, least, falls, so_far) in
      never (brought_on k old h.0 now is nine (h.2.lacking lacks)))

  pub highest_last : HighestLastLaw view
  highest_last t old new safe lacked free h = (h.2.lacking lacks).back.page
    where
      lacks : IsClean h.0.geometry t h.0.mapping → ⊥
      lacks clean =
          let falls = good_falls t h.0 new h.2 in
          as_before t t (good_in (ram new)) old h.0 safe (omega arith) free falls h.1 (λ is. lacked (record {
            none = λ n of_page.
                let here : n / entries h.0.geometry ≡ t = ap (λ (g : Geometry). n / entries g) is.sized ∙ of_page in
                sym (is.lacking n (omega (arith, of_page))) ∙ clean.none n here;
          }))

  -- ---- table pages

  sized_first : (k : ℕ) (a b : Engine N) → WritesFirst view k a b → b.geometry ≡ a.geometry
  sized_first zero a b h = ap (λ (e : Engine N). e.geometry) h
  sized_first (suc k) a b h = h.2.blocks.geometry ∙ sized_first k a h.0 h.1

  last_of : (k u : ℕ) (a b : Engine N) → k ≡ suc u → WritesFirst view k a b → IsLastPage kind.Table u (ram b) (page_in_buffer b.page)
  last_of zero u a b is h = absurd (omega (arith, is))
  last_of (suc k) u a b is h = (let same : k ≡ u = omega (arith, is) in subst (λ j. IsLastPage kind.Table j (ram b) (page_in_buffer b.page)) same h.2.page)

  pub last_table : LastTableLaw view
  last_table u old new h is =
      let last = h.tables.last in
      let pages = h.tables.round.pages in
      let sized : table_pages last.geometry ≡ table_pages new.geometry = ap table_pages (sym (sized_first (table_pages last.geometry) last new pages)) in
      last_of (table_pages last.geometry) u last new (sized ∙ is) pages

  pub spelled_table : SpelledTableLaw view
  spelled_table u old new h = h.spelled

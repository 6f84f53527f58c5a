-- What a turn has rescued, as the image and the log show it.
use Rattle.std.proofs.Common.{◌≡◌, ℕ, ◌<◌, Bool, true, false, not, List, [], None, refl, sym, ap, subst, ◌∙◌, arith, ◌||◌}
use Rattle.page_layout.specs.declared.geometry.Geometry.{Geometry}
use Rattle.page_layout.specs.Page.{Image}
use Rattle.page_layout.specs.Array.{marks}
use Rattle.page_layout.specs.Live.{live}
use Rattle.page_layout.specs.Flash.{Operation}
use Rattle.bad_blocks.specs.Table.{is_good_at, good_count}
use Rattle.allocation.specs.State.{live_at}
use Rattle.promises.specs.Log as logs
use Rattle.promises.specs.Log.{failed_in, bad_of}
use Rattle.collection.specs.State.{Ram}
use Rattle.collection.specs.Safe.{IsRam}
use Rattle.collection.specs.Truth.{IsTrue}
use Rattle.collection.specs.Collect.{IsAiling, HasNoneAiling}
use Rattle.collection.specs.Log.{FollowsLog}
use Rattle.ftl_device.specs.Calls.{HasRescued}
use Rattle.ftl_device.specs.Counts.{is_bad_by}
use Rattle.ftl_device.proofs.BlockLemmas.{count_same}
use Rattle.ftl_device.proofs.CountLemmas.{good_now_law, bad_now_law}
use Rattle.command_queue.specs.Rescues.{newest_in, IsAilingIn, FailsNowhere, Rescues}

not_true : (b : Bool) → not b ≡ true → b ≡ false
not_true true is = (let no : ⊥ = cc in absurd no)
not_true false is = refl

or_false : (x y : Bool) → y ≡ false → (x || y) ≡ x
or_false true y none = refl
or_false false y none = none

-- where the memory is true of the image, it counts the newest pages of each block
live_is : (r : Ram) (image : Image) → IsRam r → IsTrue None r image → (b : ℕ) → b < r.geometry.blocks → live_at r.blocks b ≡ newest_in r.geometry image b
live_is r image safe w b lt =
    subst (λ (g : Geometry). live_at r.blocks b ≡ live g (marks image) b) safe.blocks_of (w.live b (subst (λ (g : Geometry). b < g.blocks) (sym safe.blocks_of) lt))

module _ (old new : Ram) (log : List Operation) (safe : IsRam old) (safe' : IsRam new) (sized : new.geometry ≡ old.geometry) (follows : FollowsLog old.geometry.pages log old.blocks new.blocks) (h : HasRescued old new) where
  pub bad_still : FailsNowhere old.geometry log → (b : ℕ) → b < old.geometry.blocks → is_bad_by new b ≡ is_bad_by old b
  bad_still nowhere b lt = bad_now_law old new log b safe.blocks_of follows lt ∙ or_false (is_bad_by old b) (failed_in old.geometry.pages log b) (nowhere b lt)

  pub good_still : FailsNowhere old.geometry log → good_count new.blocks.table ≡ good_count old.blocks.table
  good_still nowhere =
      let here : logs.good_count_after old.geometry (is_bad_by new) [] ≡ logs.good_count_after old.geometry (is_bad_by old) [] =
      count_same (logs.good_of old.geometry.pages (is_bad_by new) []) (logs.good_of old.geometry.pages (is_bad_by old) []) 0 old.geometry.blocks (λ b low high. ap (λ x. not (x || false)) (bad_still nowhere b (omega arith))) in
      good_now_law new safe' ∙ (ap (λ (g : Geometry). logs.good_count_after g (is_bad_by new) []) sized ∙ (here ∙ sym (good_now_law old safe)))

  -- no bad block has a newest page after it, where none had one and no block failed
  pub none_on : FailsNowhere old.geometry log → HasNoneAiling old.blocks → HasNoneAiling new.blocks
  none_on nowhere none b lt bad =
      let here : b < old.geometry.blocks = subst (λ (g : Geometry). b < g.blocks) (safe'.blocks_of ∙ sized) lt in
      let was : is_good_at old.blocks.table b ≡ false = not_true (is_good_at old.blocks.table b) (sym (bad_still nowhere b here) ∙ ap not bad) in
      omega (arith, h.bad b here was, none b (subst (λ (g : Geometry). b < g.blocks) (sym safe.blocks_of) here) was)

  module _ (before after : Image) (w : IsTrue None old before) (w' : IsTrue None new after) where
    live_after : (b : ℕ) → b < old.geometry.blocks → live_at new.blocks b ≡ newest_in old.geometry after b
    live_after b lt = subst (λ (g : Geometry). live_at new.blocks b ≡ live g (marks after) b) sized (live_is new after safe' w' b (subst (λ (g : Geometry). b < g.blocks) (sym sized) lt))

    ailing_in : (b : ℕ) → IsAiling old.blocks b → IsAilingIn old.geometry (is_bad_by old) before b
    ailing_in b a =
        let lt : b < old.geometry.blocks = subst (λ (g : Geometry). b < g.blocks) safe.blocks_of a.within in
        record { within = lt; bad_is = ap not a.bad; some = omega (arith, a.some, live_is old before safe w b lt) }

    ailing_by : (b : ℕ) → IsAilingIn old.geometry (is_bad_by old) before b → IsAiling old.blocks b
    ailing_by b a = record {
      within = subst (λ (g : Geometry). b < g.blocks) (sym safe.blocks_of) a.within;
      bad = not_true (is_good_at old.blocks.table b) a.bad_is;
      some = omega (arith, a.some, live_is old before safe w b a.within);
    }

    fewer_in : (b : ℕ) → IsAilingIn old.geometry (is_bad_by old) before b → FailsNowhere old.geometry log → (block : ℕ) × IsAilingIn old.geometry (is_bad_by old) before block × (newest_in old.geometry after block < newest_in old.geometry before block)
    fewer_in b a nowhere =
        let its = h.fewer (good_still nowhere) (b, ailing_by b a) in
        let found = ailing_in its.0 its.1 in
        (its.0, found, omega (arith, its.2, live_is old before safe w its.0 found.within, live_after its.0 found.within))

    pub rescues : (log ≡ [] → after ≡ before) → Rescues old.geometry (is_bad_by old) log before after
    rescues still = record {
      keeps = λ b lt bad. omega (arith, h.bad b lt (not_true (is_good_at old.blocks.table b) bad), live_is old before safe w b lt, live_after b lt);
      works = λ b a none.
          let its = fewer_in b a (λ k lt. subst (λ l. failed_in old.geometry.pages l k ≡ false) (sym none) refl) in
          let same : newest_in old.geometry after its.0 ≡ newest_in old.geometry before its.0 = ap (λ i. newest_in old.geometry i its.0) (still none) in
          omega (arith, its.2, same);
      fewer = fewer_in;
    }

-- ---- the same bad blocks, in other words

module _ (g : Geometry) (p q : ℕ → Bool) (same : (b : ℕ) → b < g.blocks → p b ≡ q b) where
  ailing_as : (image : Image) (b : ℕ) → IsAilingIn g p image b → IsAilingIn g q image b
  ailing_as image b a = record { within = a.within; bad_is = sym (same b a.within) ∙ a.bad_is; some = a.some }

  ailing_back : (image : Image) (b : ℕ) → IsAilingIn g q image b → IsAilingIn g p image b
  ailing_back image b a = record { within = a.within; bad_is = same b a.within ∙ a.bad_is; some = a.some }

  pub rescues_as : (piece : List Operation) (old new : Image) → Rescues g p piece old new → Rescues g q piece old new
  rescues_as piece old new r = record {
    keeps = λ b lt bad. r.keeps b lt (same b lt ∙ bad);
    works = λ b a. r.works b (ailing_back old b a);
    fewer = λ b a nowhere. (let its = r.fewer b (ailing_back old b a) nowhere in (its.0, ailing_as old its.0 its.1, its.2));
  }

-- A flush from its begin to its table pages: parts of a call one after another, and the free blocks that they leave.
use Rattle.std.proofs.Common.{◌≡◌, inl, inr, ℕ, ◌+◌, ◌<◌, ◌≤◌, None, Result, Ok, Err, sym, ◌∙◌, subst, arith}
use Rattle.std.proofs.lemmas.Bool.{cases_eq}
use Rattle.page_layout.specs.View.{View}
use Rattle.page_layout.specs.Geometry.{translation_pages}
use Rattle.bad_blocks.specs.Table.{good_count}
use Rattle.budget.specs.Spending.{IsFunded}
use Rattle.allocation.specs.Counts.{counts_of}
use Rattle.mapping_cache.specs.Mapping.{HasLimitsOf}
use Rattle.collection.specs.declared.engine.Engine.{Engine}
use Rattle.collection.specs.declared.engine.room.Reserve.TheVariants as reserve
use Rattle.collection.specs.declared.fault.EngineFault.{EngineFault}
use Rattle.collection.specs.State.{Ram}
use Rattle.collection.specs.Safe.{IsRam, ram, image_in}
use Rattle.collection.specs.Left.{IsCalm}
use Rattle.collection.specs.Room.{wanted}
use Rattle.collection.specs.Collect.{RoomCounts}
use Rattle.ftl_device.specs.declared.fault.CallFault.TheVariants as call
use Rattle.ftl_device.specs.Calls.{TellsByMemory}
use Rattle.ftl_device.specs.Changes.{EngineLeaves, EngineKeeps, EndsKept, FlushesOn}
use Rattle.ftl_device.specs.Shortage.{SpendsPages, FlushFunded, FlushCounts, FlushShort}
use Rattle.ftl_device.proofs.StoppedLemmas.{KeepsOn}
use Rattle.ftl_device.proofs.LeaveLemmas.{leaves_then, leaves_done, leaves_ends, kept_stuck}
use Rattle.ftl_device.proofs.FlushLoops.{limits_then, keeps_then, keeps_refused}
use Rattle.ftl_device.proofs.FlushRooms.{HasTableRoom, spends_then, spends_most, pages_leave, pages_refused}
use Rattle.ftl_device.proofs.SpentLemmas.{flush_first, flush_room, table_room}

-- ---- parts of a call

-- A PART THAT IS DONE: the array stays, and the mapping its size
pub record Passes {N : Type 0} (view : View N) (old new : Engine N) : Type 0 where
  pub leaves : EngineLeaves {A = Unit {0}} view old (Ok tt) new
  pub limits : HasLimitsOf old.mapping new.mapping
  pub keeps : KeepsOn view old new

module _ {N : Type 0} (view : View N) (a b c : Engine N) (first : Passes view a b) where
  keeps_on : KeepsOn view b c → KeepsOn view a c
  keeps_on next is_honest k =
      let before = first.keeps is_honest k in
      keeps_then a.geometry (ram b) (ram c) (image_in view.flash a) (image_in view.flash b) (image_in view.flash c) first.leaves.geometry before (next (first.leaves.die.honest_is ∙ is_honest) before.truth)

  pub passes_then : Passes view b c → Passes view a c
  passes_then next = record {
    leaves = leaves_then view a b c tt (Ok tt) first.keeps first.limits first.leaves next.leaves;
    limits = limits_then a.mapping b.mapping c.mapping first.limits next.limits;
    keeps = keeps_on next.keeps;
  }

  -- and one that is refused after it
  refused_then : (fault : EngineFault) → EngineLeaves {A = Unit {0}} view b (Err fault) c → EngineLeaves {A = Unit {0}} view a (Err fault) c
  refused_then fault next = leaves_then view a b c tt (Err fault) first.keeps first.limits first.leaves next

  array_then : (fault : EngineFault) → EngineKeeps view b (Err fault) c → EngineKeeps view a (Err fault) c
  array_then fault next is_honest k =
      let before = first.keeps is_honest k in
      keeps_refused a.geometry (ram b) (ram c) (image_in view.flash a) (image_in view.flash b) (image_in view.flash c) fault first.leaves.geometry before (next (first.leaves.die.honest_is ∙ is_honest) before.truth)

  pub stuck_then : (fault : EngineFault) → EngineLeaves {A = Unit {0}} view b (Err fault) c → HasLimitsOf b.mapping c.mapping → EngineKeeps view b (Err fault) c → EndsKept view a (Err (call.Engine fault)) c
  stuck_then fault leaves limits keeps = kept_stuck view a c fault (refused_then fault leaves) (limits_then a.mapping b.mapping c.mapping first.limits limits) (array_then fault keeps)

  -- and the last one, whatever it gives
  pub kept_then : {A : Type 0} (x : A) → EngineLeaves view b (Ok x) c → HasLimitsOf b.mapping c.mapping → (c.fault ≡ None → IsCalm (ram c)) → KeepsOn view b c → EndsKept view a (Ok tt) c
  kept_then x leaves limits calm keeps = record {
    ends = leaves_ends view a c (Ok tt) (leaves_done view a c x tt (leaves_then view a b c tt (Ok x) first.keeps first.limits first.leaves leaves)) (limits_then a.mapping b.mapping c.mapping first.limits limits) calm;
    cut = λ is_honest k bus. (let no : ⊥ = cc in absurd no);
    truth = keeps_on keeps;
  }

-- one, two and three of them, by what their calls say
module _ {N : Type 0} (view : View N) where
  pub passed_1 : (a b : Engine N) → FlushesOn view a (Ok tt) b → Passes view a b
  passed_1 a b on = record { leaves = on.leaves; limits = on.keys.limits; keeps = on.truth }

  pub passed_2 : (a b c : Engine N) → FlushesOn view a (Ok tt) b → FlushesOn view b (Ok tt) c → Passes view a c
  passed_2 a b c first next = passes_then view a b c (passed_1 a b first) (passed_1 b c next)

  pub passed_3 : (a b c d : Engine N) → FlushesOn view a (Ok tt) b → FlushesOn view b (Ok tt) c → FlushesOn view c (Ok tt) d → Passes view a d
  passed_3 a b c d first next last = passes_then view a c d (passed_2 a b c first next) (passed_1 c d last)

  -- one more of them, whatever it answers
  pub flushes_then : (a b c : Engine N) → FlushesOn view a (Ok tt) b → (result : Result (Unit {0}) EngineFault) → FlushesOn view b result c → FlushesOn view a result c
  flushes_then a b c first (Ok done) next =
      let both = passes_then view a b c (passed_1 a b first) (record { leaves = next.leaves; limits = next.keys.limits; keeps = next.truth }) in
      record { leaves = both.leaves; keys = record { limits = both.limits; keys = next.keys.keys ∙ first.keys.keys }; calm = next.calm; pins = λ none. next.pins (first.pins none); truth = both.keeps }
  flushes_then a b c first (Err fault) next = record {
    leaves = refused_then view a b c (passed_1 a b first) fault next.leaves;
    keys = record { limits = limits_then a.mapping b.mapping c.mapping first.keys.limits next.keys.limits; keys = next.keys.keys ∙ first.keys.keys };
    calm = tt;
    pins = tt;
    truth = array_then view a b c (passed_1 a b first) fault next.truth;
  }

-- ---- free blocks

-- from the memory as a flush begins to that after its begin
module _ (a b : Ram) (safe : IsRam b) (same : b.geometry ≡ a.geometry) (share : b.mapping.share ≡ a.mapping.share) (funded : IsFunded a.geometry.pages 0 (counts_of a.blocks))
    (still : a.mapping.share ≡ 0 → b ≡ a) where
  -- with share 0 nothing was done
  here : a.mapping.share ≡ 0 → IsFunded b.geometry.pages 0 (counts_of b.blocks)
  here none = subst (λ (r : Ram). IsFunded r.geometry.pages 0 (counts_of r.blocks)) (sym (still none)) funded

  module _ (room : 0 < a.mapping.share → RoomCounts (wanted reserve.Flush a) 0 a b (Ok tt)) where
    -- a translation page was refused
    pub pages_end : (fault : EngineFault) (c : Ram) → (b.mapping.share ≡ 0 → (failures : ℕ) → IsFunded b.geometry.pages failures (counts_of b.blocks) → FlushCounts failures b c (Err fault))
        → (0 < b.mapping.share → SpendsPages (translation_pages b.geometry) b c (Err fault)) → FlushShort a c (Err (call.Engine fault))
    pages_end fault c counts spends = elim (cases_eq a.mapping.share 0) [
      | inl none ↦ subst (λ (r : Ram). FlushShort r c (Err (call.Engine fault))) (still none) (flush_first fault b c (counts (share ∙ none) 0 (here none)))
      | inr some ↦ pages_refused a b (omega (arith, some)) safe same share (room (omega (arith, some))) fault c (spends (omega (arith, some, share)))
    ]

    module _ (c d : Ram) (sized : c.geometry ≡ b.geometry) (shared : c.mapping.share ≡ b.mapping.share)
        (counts : b.mapping.share ≡ 0 → (failures : ℕ) → IsFunded b.geometry.pages failures (counts_of b.blocks) → FlushFunded failures b c)
        (spends : 0 < b.mapping.share → SpendsPages (translation_pages b.geometry) b c (Ok tt)) where
      -- room for the table pages was refused
      pub room_end : (fault : EngineFault) → TellsByMemory {A = Unit {0}} c d (Err fault)
          → (c.mapping.share ≡ 0 → (failures : ℕ) → IsFunded c.geometry.pages failures (counts_of c.blocks) → RoomCounts 9 failures c d (Err fault))
          → (0 < c.mapping.share → SpendsPages 0 c d (Err fault)) → FlushShort a d (Err (call.Engine fault))
      room_end fault tells more spent = elim (cases_eq a.mapping.share 0) [
        | inl none ↦
            subst (λ (r : Ram). FlushShort r d (Err (call.Engine fault))) (still none)
            (flush_room fault b c d sized shared tells (counts (share ∙ none) 0 (here none)) (more (shared ∙ (share ∙ none))))
        | inr some ↦
            let both = spends_then (translation_pages b.geometry) 0 (Err fault) b c d sized (spends (omega (arith, some, share))) (spent (omega (arith, some, share, shared))) in
            pages_refused a b (omega (arith, some)) safe same share (room (omega (arith, some))) fault d (spends_most (translation_pages b.geometry + 0) (translation_pages b.geometry) (Err fault) b d (omega arith) both)
      ]

      -- there is room for the table pages
      pub table_ready : good_count d.blocks.table ≤ good_count c.blocks.table
          → (c.mapping.share ≡ 0 → (failures : ℕ) → IsFunded c.geometry.pages failures (counts_of c.blocks) → RoomCounts 9 failures c d (Ok tt))
          → (0 < c.mapping.share → SpendsPages 0 c d (Ok tt)) → HasTableRoom a d
      table_ready fewer more spent = elim (cases_eq a.mapping.share 0) [
        | inl none ↦ subst (λ (r : Ram). HasTableRoom r d) (still none) (table_room b c d sized shared fewer (counts (share ∙ none) 0 (here none)) (more (shared ∙ (share ∙ none))))
        | inr some ↦
            let both = spends_then (translation_pages b.geometry) 0 (Ok tt) b c d sized (spends (omega (arith, some, share))) (spent (omega (arith, some, share, shared))) in
            pages_leave a b (omega (arith, some)) safe same share (room (omega (arith, some))) d (spends_most (translation_pages b.geometry + 0) (translation_pages b.geometry) (Ok tt) b d (omega arith) both)
      ]

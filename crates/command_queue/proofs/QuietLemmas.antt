-- What a turn has done that programmed and erased nothing: it has found no collection to begin.
use Rattle.std.proofs.Common.{◌≡◌, ◌⊎◌, inl, inr, ℕ, ◌+◌, ◌<◌, ◌≤◌, Bool, true, false, not, ◌&&◌, ◌||◌, List, [], ◌∷◌, None, Some, refl, sym, ap, subst, ◌∙◌, arith}
use Rattle.std.specs.List.{list_all}
use Rattle.page_layout.specs.declared.geometry.Geometry.{Geometry}
use Rattle.page_layout.specs.Page.{Image}
use Rattle.page_layout.specs.Array.{marks}
use Rattle.page_layout.specs.Sound.{is_erased_page}
use Rattle.page_layout.specs.Block.{block_pages}
use Rattle.page_layout.specs.Geometry.{need_at, flush_blocks_at}
use Rattle.page_layout.specs.Flash.{Operation}
use Rattle.bad_blocks.specs.Table.{good_count}
use Rattle.allocation.specs.State.{State, free_count, live_at}
use Rattle.promises.specs.Log as logs
use Rattle.promises.specs.Log.{programs_in, failed_in, bad_of}
use Rattle.collection.specs.declared.engine.collect_in_turns.Step.{Step}
use Rattle.collection.specs.declared.engine.collect_in_turns.Step.TheVariants as steps
use Rattle.collection.specs.State.{Ram}
use Rattle.collection.specs.Safe.{IsRam}
use Rattle.collection.specs.Truth.{IsTrue}
use Rattle.collection.specs.Collect.{LeadTo, HasErased, HasCollected}
use Rattle.collection.specs.Left.{HasStepped, pinned_to}
use Rattle.collection.specs.Room.{Collects}
use Rattle.collection.specs.Log.{FollowsLog}
use Rattle.ftl_device.specs.Calls.{HasRescued}
use Rattle.ftl_device.specs.Counts.{is_bad_by, free_by, good_by}
use Rattle.ftl_device.specs.Turn.{HasGoneOn, HasNothingToDo, TurnsOn, HasTurned}
use Rattle.ftl_device.proofs.BlockLemmas.{count_same}
use Rattle.ftl_device.proofs.CountLemmas.{free_now_law, good_now_law}
use Rattle.command_queue.specs.Rescues.{FailsNowhere, LeavesTwelve}
use Rattle.command_queue.proofs.RescueLemmas.{bad_still, good_still}

-- ---- each erase brings a free block, or takes a good one

abbrev free_in : Ram → ℕ
free_in r = free_count r.blocks

abbrev good_in : Ram → ℕ
good_in r = good_count r.blocks.table

-- after it as many blocks are free, beside those that have failed
abbrev Erases : Ram → Ram → Type 0
Erases a b = free_in a + good_in b + 1 ≤ free_in b + good_in a

has_erased : (block : ℕ) (a b : Ram) → HasErased block a b → Erases a b
has_erased block a b h = omega (arith, h.counts.good, h.counts.free)

-- the steps before the erase each take a sequence
lead_next : (flushing : Bool) (a : Ram) (taken : List Step) (b : Ram) → LeadTo flushing a taken b → (a.next ≤ b.next) × (b.next ≡ a.next → b.blocks ≡ a.blocks)
lead_next flushing a [] b is = (omega (arith, ap (λ (r : Ram). r.next) is), λ same. ap (λ (r : Ram). r.blocks) is)
lead_next flushing a (steps.Copied ∷ before) b (mid, lead, copied) =
    let so_far = (lead_next flushing a before mid lead).0 in
    (omega (arith, so_far, copied.put.next), λ same. absurd (omega (arith, so_far, copied.put.next, same)))
lead_next flushing a (steps.WroteBack ∷ before) b (mid, lead, wrote) =
    let so_far = (lead_next flushing a before mid lead).0 in
    (omega (arith, so_far, wrote.put.next), λ same. absurd (omega (arith, so_far, wrote.put.next, same)))
lead_next flushing a (steps.Erased ∷ before) b never = absurd never

collected : (flushing : Bool) (block : ℕ) (a b : Ram) → HasCollected flushing block a b → (a.next ≤ b.next) × (b.next ≡ a.next → Erases a b)
collected flushing block a b h =
    let lead = lead_next flushing a h.ledger.steps_taken h.mid h.ledger.lead in (
      omega (arith, lead.0, h.erase.next),
      λ same.
          let blocks_are = lead.1 (omega (arith, lead.0, h.erase.next, same)) in
          omega (arith, has_erased block h.mid b h.erase, ap (λ (s : State). free_count s) blocks_are, ap (λ (s : State). good_count s.table) blocks_are),
    )

-- room was made without a sequence: nothing was done, or a block was erased
roomed : (many : ℕ) (flushing : Bool) (a : Ram) (blocks : List ℕ) (b : Ram) → Collects many flushing a blocks b → (a.next ≤ b.next) × (b.next ≡ a.next → (b ≡ a) ⊎ Erases a b)
roomed many flushing a [] b is = (omega (arith, ap (λ (r : Ram). r.next) is), λ same. inl is)
roomed many flushing a (block ∷ before) b (mid, so_far, which, one) =
    let first = roomed many flushing a before mid so_far in
    let then = collected flushing block mid b one in (
      omega (arith, first.0, then.0),
      λ same. elim (first.1 (omega (arith, first.0, then.0, same))) [
        | inl still ↦ inr (omega (arith, then.1 (omega (arith, first.0, then.0, same)), ap free_in still, ap good_in still))
        | inr erased ↦ inr (omega (arith, then.1 (omega (arith, first.0, then.0, same)), erased))
      ],
    )

-- a collection went on
stepped : (a b : Ram) → HasGoneOn a b → (a.next ≤ b.next) × (b.next ≡ a.next → Erases a b)
stepped a b on = by on.step on.stepped
  where
    by : (step : Step) → HasStepped false on.block (pinned_to (Some on.block) a) b step → (a.next ≤ b.next) × (b.next ≡ a.next → Erases a b)
    by steps.Copied h = (let put = h.cost.put in (omega (arith, put.next), λ same. absurd (omega (arith, put.next, same))))
    by steps.WroteBack h = (let put = h.cost.put in (omega (arith, put.next), λ same. absurd (omega (arith, put.next, same))))
    by steps.Erased h = (let erase = h.cost in (omega (arith, erase.next), λ same. has_erased on.block.block (pinned_to (Some on.block) a) b erase))

-- what is done once there is room
turned_on : (a b : Ram) → TurnsOn a b → (a.next ≤ b.next) × (b.next ≡ a.next → ((b ≡ a) × HasNothingToDo a) ⊎ Erases a b)
turned_on a b (inl still) = (omega (arith, ap (λ (r : Ram). r.next) still.0), λ same. inl still)
turned_on a b (inr (inl (some, page))) =
    let spent = page.programmed in
    let good = spent.account.good in
    (omega (arith, page.some, spent.next, good), λ same. absurd (omega (arith, page.some, spent.next, good, same)))
turned_on a b (inr (inr (none, on))) = (let went = stepped a b on in (went.0, λ same. inr (went.1 same)))

-- SO A TURN THAT TOOK NO SEQUENCE AND ERASED NOTHING has changed nothing, since there was nothing to do
still_turned : (a b : Ram) → HasTurned a b → b.next ≡ a.next → free_in b ≡ free_in a → good_in b ≡ good_in a → (b ≡ a) × HasNothingToDo a
still_turned a b t same free good =
    let room = roomed 9 false a t.room.collects.0 t.mid t.room.collects.1 in
    let on = turned_on t.mid b t.on in
    let so_far : t.mid.next ≡ a.next = omega (arith, room.0, on.0, same) in
    let onward : b.next ≡ t.mid.next = omega (arith, room.0, on.0, same) in
    elim (room.1 so_far) [
      | inl still ↦ elim (on.1 onward) [
        | inl rests ↦ (rests.0 ∙ still, subst HasNothingToDo still rests.1)
        | inr erased ↦ absurd (omega (arith, erased, free, good, ap free_in still, ap good_in still))
      ]
      | inr erased ↦ elim (on.1 onward) [
        | inl rests ↦ absurd (omega (arith, erased, free, good, ap free_in rests.0, ap good_in rests.0))
        | inr more ↦ absurd (omega (arith, erased, more, free, good))
      ]
    ]

-- ---- by the image and the log

or_false : (x : Bool) → (x || false) ≡ x
or_false true = refl
or_false false = refl

-- the bad blocks of a log, and then none
module _ (g : Geometry) (bad : ℕ → Bool) (log : List Operation) where
  good_once : (b : ℕ) → logs.good_of g.pages (bad_of g.pages bad log) [] b ≡ logs.good_of g.pages bad log b
  good_once b = ap not (or_false (bad_of g.pages bad log b))

  pub joined_good : logs.good_count_after g (bad_of g.pages bad log) [] ≡ logs.good_count_after g bad log
  joined_good = count_same (logs.good_of g.pages (bad_of g.pages bad log) []) (logs.good_of g.pages bad log) 0 g.blocks (λ b low high. good_once b)

  pub joined_free : (image : Image) → logs.free_count_after g (bad_of g.pages bad log) [] image ≡ logs.free_count_after g bad log image
  joined_free image = count_same (logs.free_of g (bad_of g.pages bad log) [] image) (logs.free_of g bad log image) 0 g.blocks (λ b low high. ap (λ x. x && list_all is_erased_page (block_pages g image b)) (good_once b))

module _ (g : Geometry) (p q : ℕ → Bool) (same : (b : ℕ) → b < g.blocks → p b ≡ q b) where
  good_as : logs.good_count_after g p [] ≡ logs.good_count_after g q []
  good_as = count_same (logs.good_of g.pages p []) (logs.good_of g.pages q []) 0 g.blocks (λ b low high. ap (λ x. not (x || false)) (same b (omega arith)))

  free_as : (image : Image) → logs.free_count_after g p [] image ≡ logs.free_count_after g q [] image
  free_as image = count_same (logs.free_of g p [] image) (logs.free_of g q [] image) 0 g.blocks (λ b low high. ap (λ x. not (x || false) && list_all is_erased_page (block_pages g image b)) (same b (omega arith)))

  pub twelve_as : (share : ℕ) (piece : List Operation) (image : Image) → LeavesTwelve g share p piece image → LeavesTwelve g share q piece image
  twelve_as share piece image h = λ none many. omega (arith, h none (omega (arith, many, good_as)), free_as image)

module _ (old new : Ram) (log : List Operation) (safe : IsRam old) (safe' : IsRam new) (sized : new.geometry ≡ old.geometry) (follows : FollowsLog old.geometry.pages log old.blocks new.blocks) (h : HasRescued old new)
    (next : new.next ≡ old.next + programs_in log) (before after : Image) (w : IsTrue None old before) (w' : IsTrue None new after) (still : log ≡ [] → after ≡ before) (t : HasTurned old new) (none : log ≡ []) where
  nowhere : FailsNowhere old.geometry log
  nowhere k lt = subst (λ l. failed_in old.geometry.pages l k ≡ false) (sym none) refl

  bad_same : (b : ℕ) → b < old.geometry.blocks → is_bad_by new b ≡ is_bad_by old b
  bad_same = bad_still old new log safe safe' sized follows h nowhere

  good_same : good_in new ≡ good_in old
  good_same = good_still old new log safe safe' sized follows h nowhere

  free_here : free_by new after ≡ free_by old before
  free_here =
      ap (λ (g : Geometry). logs.free_count_after g (is_bad_by new) [] after) sized ∙ (free_as old.geometry (is_bad_by new) (is_bad_by old) bad_same after ∙ ap (λ i. logs.free_count_after old.geometry (is_bad_by old) [] i) (still none))

  free_same : free_in new ≡ free_in old
  free_same = free_now_law new after safe' w' ∙ (free_here ∙ sym (free_now_law old before safe w))

  rests : (new ≡ old) × HasNothingToDo old
  rests = still_turned old new t (next ∙ (ap (λ l. old.next + programs_in l) none ∙ omega arith)) free_same good_same

  twelve : HasNothingToDo old → need_at old.geometry old.mapping.share + 3 ≤ good_by old → 12 + flush_blocks_at old.geometry old.mapping.share ≤ free_count old.blocks
  twelve (inl some) many =
      let its = h.fewer (good_still old new log safe safe' sized follows h nowhere) some in
      absurd (omega (arith, its.2, ap (λ (r : Ram). live_at r.blocks its.0) rests.0))
  twelve (inr idle) many = idle.made.enough (marks before) w.live (omega (arith, many, good_now_law old safe))

  pub leaves_twelve : need_at old.geometry old.mapping.share + 3 ≤ logs.good_count_after old.geometry (is_bad_by old) [] → 12 + flush_blocks_at old.geometry old.mapping.share ≤ logs.free_count_after old.geometry (is_bad_by old) [] after
  leaves_twelve many =
      let here : 12 + flush_blocks_at old.geometry old.mapping.share ≤ free_by old before = subst (λ n. 12 + flush_blocks_at old.geometry old.mapping.share ≤ n) (free_now_law old before safe w) (twelve rests.1 many) in
      subst (λ i. 12 + flush_blocks_at old.geometry old.mapping.share ≤ logs.free_count_after old.geometry (is_bad_by old) [] i) (sym (still none)) here

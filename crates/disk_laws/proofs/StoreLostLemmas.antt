-- What a loss of power leaves of a store.
use Rattle.std.proofs.Common.{◌≡◌, inr, ℕ, Bool, true, false, List, [], ◌∷◌, ◌++◌, length, replicate, refl, sym, ap, subst, ◌∙◌}
use Rattle.std.specs.Prelude.{if◌then◌else◌}
use Rattle.page_layout.specs.declared.geometry.Geometry.{Geometry}
use Rattle.page_layout.specs.Page.{Page, Image, IsImage}
use Rattle.page_layout.specs.Change.{erased_page}
use Rattle.page_layout.specs.Flash.{Operation, Program, Erase, may_erase, may_program, with_block}
use Rattle.page_layout.specs.Recording.{image_after}
use Rattle.onfi_cycles.specs.Cycles.{Due, Moves, Resets, Programs, Erases, Refuses}
use Rattle.image_laws.specs.Power.{LosesSince}
use Rattle.file_die.specs.declared.die.SyncWhen.{SyncWhen}
use Rattle.file_die.specs.Store.{Held, AreImages}
use Rattle.file_die.specs.Die.{ErasesInStore, IfDue, Leaves, ProgramsIn}
use Rattle.file_die.specs.DieLaws.{AddsAlone, GoesAdding, TakesStoreCycle, StoreCycle}
use Rattle.file_die.proofs.DieLawLemmas.{adding_goes, images, since_sync}
use Rattle.disk_server.proofs.PowerLemmas.{loses_since}
use Rattle.disk_laws.specs.Lost.{LostBy}
use Rattle.disk_laws.specs.StoreLost.{GoesDone, ProgramsUnsound, StoreLosesLaw, operation_in, operations_in}

-- ---- cycles that add pages

pub adding_more : (sync_when : SyncWhen) (s mid t : Held) (cycles : List StoreCycle) (cycle : StoreCycle) → GoesAdding sync_when s cycles mid → AddsAlone mid cycle.flash cycle.due → TakesStoreCycle sync_when mid cycle t
    → GoesAdding sync_when s (cycles ++ cycle ∷ []) t
adding_more sync_when s mid t [] cycle same adds takes =
    (t, subst (λ x. AddsAlone x cycle.flash cycle.due) same adds, subst (λ x. TakesStoreCycle sync_when x cycle t) same takes, refl)
adding_more sync_when s mid t (first ∷ cycles) cycle (next, adds_first, takes_first, rest) adds takes =
    (next, adds_first, takes_first, adding_more sync_when next mid t cycles cycle rest adds takes)

-- ---- one cycle after another, since all lasted in a store that was there first

module _ (sync_when : SyncWhen) (found : Image) where
  -- the store as all lasted, and the cycles since, which only added pages
  pub record Since (g : Geometry) (start s : Held) : Type 0 where
    pub images : AreImages start
    pub sized : start.geometry ≡ g
    pub lasted : start.durable ≡ start.pages
    pub added : List StoreCycle
    pub goes : GoesAdding sync_when start added s

  pub stays : (g : Geometry) (start s : Held) → Since g start s → (s.geometry ≡ g) × AreImages s
  stays g start s since = (let w = images sync_when start s since.added (adding_goes sync_when start s since.added since.goes) in (w.0 ∙ since.sized, w.1 since.images))

  pub begin : (g : Geometry) (s : Held) → AreImages s → s.geometry ≡ g → s.durable ≡ s.pages → Since g s s
  begin g s whole sized lasted = record { images = whole; sized = sized; lasted = lasted; added = []; goes = refl }

  -- what the cycles behind one come to, from each store as which all may have lasted
  Behind : Geometry → Held → List Operation → Type 0
  Behind g mid ops = (start : Held) → Since g start mid → LostBy g.pages start.pages mid.pages ops found

  same_behind : (g : Geometry) (start s mid : Held) (ops : List Operation) → Since g start s → mid ≡ s → Behind g mid ops → LostBy g.pages start.pages s.pages ops found
  unfolding Behind
  same_behind g start s mid ops since same store_behind = subst (λ x. LostBy g.pages start.pages x.pages ops found) same (store_behind start (subst (Since g start) (sym same) since))

  on_program : (g : Geometry) (start s mid : Held) (cycle : StoreCycle) (row : ℕ) (page : Page) (ops : List Operation) (b : Bool) → cycle.due ≡ Programs row page → cycle.done ≡ true → b ≡ may_program cycle.flash row
      → Since g start s → ProgramsUnsound s cycle.flash cycle.due → TakesStoreCycle sync_when s cycle mid → IfDue b (ProgramsIn s row page sync_when true mid) (mid ≡ s) → Behind g mid ops
      → LostBy g.pages start.pages s.pages ((if b then Program row page true page ∷ [] else []) ++ ops) found
  unfolding Behind image_after
  on_program g start s mid cycle row page ops false is done allowed since adds takes same store_behind = same_behind g start s mid ops since same store_behind
  on_program g start s mid cycle row page ops true is done allowed since adds takes puts store_behind =
      let alone : AddsAlone s cycle.flash cycle.due = subst (λ due. ProgramsUnsound s cycle.flash due → AddsAlone s cycle.flash due) (sym is) (λ h. h) adds in
      let now : Since g start mid = record {
        images = since.images;
        sized = since.sized;
        lasted = since.lasted;
        added = since.added ++ cycle ∷ [];
        goes = adding_more sync_when start s mid since.added cycle since.goes alone takes;
      } in
      inr (subst (λ i. LostBy g.pages start.pages i ops found) (puts.puts.put refl) (store_behind start now))

  on_erase : (g : Geometry) (start s mid : Held) (cycle : StoreCycle) (block : ℕ) (ops : List Operation) (b : Bool) → Since g start s → TakesStoreCycle sync_when s cycle mid
      → IfDue b (ErasesInStore s block true mid) (mid ≡ s) → Behind g mid ops
      → LostBy g.pages start.pages s.pages ((if b then Erase block true (replicate g.pages (erased_page g)) ∷ [] else []) ++ ops) found
  unfolding Behind image_after
  on_erase g start s mid cycle block ops false since takes same store_behind = same_behind g start s mid ops since same store_behind
  on_erase g start s mid cycle block ops true since takes erases store_behind =
      let here = stays g start s since in
      let cleared : mid.pages ≡ with_block g.pages block (replicate g.pages (erased_page g)) s.pages =
      subst (λ (h : Geometry). mid.pages ≡ with_block h.pages block (replicate h.pages (erased_page h)) s.pages) here.0 (erases.clears.cleared refl) in
      let again : Since g mid mid = begin g mid (erases.clears.whole here.1) (takes.geometry ∙ here.0) (erases.after refl) in
      inr (inr (subst (λ i. LostBy g.pages i i ops found) cleared (store_behind mid again)))

  on_due : (g : Geometry) (start s mid : Held) (cycle : StoreCycle) (ops : List Operation) (due : Due) → cycle.due ≡ due → cycle.done ≡ true → Since g start s → ProgramsUnsound s cycle.flash cycle.due
      → TakesStoreCycle sync_when s cycle mid → Leaves due cycle.flash sync_when s true mid → Behind g mid ops → LostBy g.pages start.pages s.pages (operation_in g cycle.flash due ++ ops) found
  on_due g start s mid cycle ops (Programs row page) is done since adds takes leaves store_behind = on_program g start s mid cycle row page ops (may_program cycle.flash row) is done refl since adds takes leaves store_behind
  on_due g start s mid cycle ops (Erases block) is done since adds takes leaves store_behind = on_erase g start s mid cycle block ops (may_erase cycle.flash block) since takes leaves store_behind
  on_due g start s mid cycle ops (Moves phase) is done since adds takes same store_behind = same_behind g start s mid ops since same store_behind
  on_due g start s mid cycle ops Resets is done since adds takes same store_behind = same_behind g start s mid ops since same store_behind
  on_due g start s mid cycle ops (Refuses fault) is done since adds takes same store_behind = same_behind g start s mid ops since same store_behind

  all_done : (g : Geometry) (start s t : Held) (cycles : List StoreCycle) → t.durable ≡ found → Since g start s → GoesDone sync_when s cycles t → LostBy g.pages start.pages s.pages (operations_in g cycles) found
  unfolding Behind
  all_done g start s t [] is since same =
      let here = stays g start s since in
      let long : length s.durable ≡ length s.pages = here.1.durable_whole.rows ∙ sym here.1.pages_whole.rows in
      let lost = loses_since start.pages s long (since_sync sync_when start s since.added since.goes since.lasted) in
      subst (LosesSince start.pages s.pages) (ap (λ (x : Held). x.durable) (sym same) ∙ is) lost
  all_done g start s t (cycle ∷ cycles) is since (mid, done, adds, takes, rest) =
      let leaves : Leaves cycle.due cycle.flash sync_when s true mid = subst (λ d. Leaves cycle.due cycle.flash sync_when s d mid) done takes.leaves in
      on_due g start s mid cycle (operations_in g cycles) cycle.due refl done since adds takes leaves (λ first now. all_done g first mid t cycles is now rest)

  -- and the images stay images of the die
  whole_done : (g : Geometry) (s t : Held) (cycles : List StoreCycle) → s.geometry ≡ g → AreImages s → GoesDone sync_when s cycles t → (t.geometry ≡ g) × AreImages t
  whole_done g s t [] sized whole same = (ap (λ (x : Held). x.geometry) same ∙ sized, subst AreImages (sym same) whole)
  whole_done g s t (cycle ∷ cycles) sized whole (mid, done, adds, takes, rest) =
      let one = images sync_when s mid (cycle ∷ []) (mid, takes, refl) in
      whole_done g mid t cycles (takes.geometry ∙ sized) (one.1 whole) rest

pub store_loses : StoreLosesLaw
store_loses sync_when s t cycles whole lasted goes =
    let ends = whole_done sync_when t.durable s.geometry s t cycles refl whole goes in
    record {
      whole = subst (λ g. IsImage g t.durable) ends.0 ends.1.durable_whole;
      by = all_done sync_when t.durable s.geometry s s t cycles refl (begin sync_when t.durable s.geometry s whole refl lasted) goes;
    }

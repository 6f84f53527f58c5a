-- WHAT THE HEADLINE IS FOR: what each of its parts says of a run, of the device that it begins with, and of the call that the bus failed in.
use Rattle.std.specs.Prelude.{◌≡◌, ◌≢◌, ℕ, Bool, true, false, ◌<◌, ◌≤◌, ◌/◌, List, ◌∷◌, ◌++◌, map, Option, Result, Err}
use Rattle.page_layout.specs.View.{View}
use Rattle.page_layout.specs.declared.geometry.Geometry.{Geometry}
use Rattle.page_layout.specs.Page.{Page}
use Rattle.page_layout.specs.Array.{HasOneArray}
use Rattle.page_layout.specs.Counter.{HasRisen}
use Rattle.page_layout.specs.Flash.{Flash, Operation, Program, Leads}
use Rattle.page_layout.specs.Recording.{Records}
use Rattle.promises.specs.Step.{ArrayRun}
use Rattle.promises.specs.Log.{block_of, bad_of, erases_of}
use Rattle.promises.specs.Run.{log_of, state_of}
use Rattle.promises.specs.Stream.{command_of}
use Rattle.certificate.specs.Claim.{Claim}
use Rattle.image_check.specs.Agrees.{Agrees}
use Rattle.image_check.specs.Refused.{IsRefusal}
use Rattle.image_check.specs.Stale.{stale_sectors}
use Rattle.image_check.specs.declared.refusal.Refusal.{Refusal}
use Rattle.image_check.specs.declared.refusal.Refusal.TheVariants as refusal
use Rattle.request_stream.specs.declared.reply.ServeFault.{ServeFault}
use Rattle.collection.specs.Safe.{ram}
use Rattle.ftl_device.specs.declared.device.Device.{Device}
use Rattle.ftl_device.specs.Begin.{begun_ram, is_bad_in}
use Rattle.command_queue.specs.Exchanges.{Exchange, commands_in, replies_in, AreKnown}
use Rattle.command_queue.specs.Tells.{ToldEach}
use Rattle.command_queue.specs.Run.{accepted_device}
use Rattle.block_server.specs.declared.server.Served.{Served}
use Rattle.block_server.specs.Checked.{Headline, HeadlineHolds, HasBusFailed, IsBegunFromClaim, IsHandedBack, IsServed, IsUnaccepted, IsRunUnstarted}

-- ---- of the headline

-- the certificate agrees with the image, which holds one array without doubt
abbrev pub OneArrayLaw : Type 0
OneArrayLaw = (g : Geometry) (share capacity : ℕ) (c : Claim) (s t : Flash) (xs : List Exchange) → Headline g share capacity c s t xs → Agrees g capacity s.image c × HasOneArray g s.image

-- EACH ANSWER IS THE ARRAY'S: the replies answer the commands, from the array that the die held to the one that it holds
abbrev pub HeadlineAnswersLaw : Type 0
HeadlineAnswersLaw = (g : Geometry) (share capacity : ℕ) (c : Claim) (s t : Flash) (xs : List Exchange) → (h : Headline g share capacity c s t xs)
    → ArrayRun s.geometry (state_of (accepted_device s c)) (commands_in xs) (replies_in xs) (state_of (record { flash = t; ro = h.ro; pinned = h.pinned }))

-- one log leads the die from the one image to the other
abbrev pub HeadlineLeadsLaw : Type 0
HeadlineLeadsLaw = (g : Geometry) (share capacity : ℕ) (c : Claim) (s t : Flash) (xs : List Exchange) → (h : Headline g share capacity c s t xs) → Leads s (log_of h.run.events) t

-- NO BAD BLOCK is programmed or erased: none that the certificate gives as bad, and none that has failed
abbrev pub HeadlineBadLaw : Type 0
HeadlineBadLaw = (g : Geometry) (share capacity : ℕ) (c : Claim) (s t : Flash) (xs : List Exchange) (before after : List Operation) (op : Operation) → (h : Headline g share capacity c s t xs)
    → log_of h.run.events ≡ before ++ op ∷ after → bad_of g.pages (is_bad_in c) before (block_of g.pages op) ≡ false

-- NO PAGE IS PROGRAMMED TWICE but for an erase of its block between
abbrev pub HeadlineOnceLaw : Type 0
HeadlineOnceLaw = (g : Geometry) (share capacity : ℕ) (c : Claim) (s t : Flash) (xs : List Exchange) (before between after : List Operation) (row : ℕ) (p q left left' : Page) (passed passed' : Bool)
    → (h : Headline g share capacity c s t xs) → log_of h.run.events ≡ before ++ Program row p passed left ∷ (between ++ Program row q passed' left' ∷ after)
    → 0 < erases_of between (row / g.pages)

-- ---- of the device that it begins with

-- over an honest die the device begins with the pages that were handed in, knows just the stale sectors of that image, and tells the same record
abbrev pub BegunImageLaw : {N : Type 0} → View N → Type 0
BegunImageLaw {N} view = (nand : N) (g : Geometry) (share : ℕ) (c : Claim) (first : Device N) → IsBegunFromClaim view nand g share c first
    → view.honest nand ≡ true → (view.flash first.engine.nand ≡ view.flash nand) × (ram first.engine ≡ begun_ram g share c (stale_sectors g (view.flash nand).image))

abbrev pub BegunRecordLaw : {N : Type 0} → View N → Type 0
BegunRecordLaw {N} view = (nand : N) (g : Geometry) (share : ℕ) (c : Claim) (first : Device N) → IsBegunFromClaim view nand g share c first
    → view.honest nand ≡ true → view.recorded first.engine.nand ≡ view.recorded nand

-- whatever the die is, it is as honest as it was handed in, and its count of failures is no lower
abbrev pub BegunCountsLaw : {N : Type 0} → View N → Type 0
BegunCountsLaw {N} view = (nand : N) (g : Geometry) (share : ℕ) (c : Claim) (first : Device N) → IsBegunFromClaim view nand g share c first
    → (view.honest first.engine.nand ≡ view.honest nand) × (view.failed nand ≤ view.failed first.engine.nand)

-- THE RECORD OF WHAT WAS SERVED: what an honest die tells afterwards is what it told as it was handed in, with the log of the run, unless the record has ended
abbrev pub ServedRecordLaw : {N : Type 0} → (view : View N) → Type 0
ServedRecordLaw {N} view = (nand : N) (g : Geometry) (share capacity : ℕ) (c : Claim) (first new : Device N) (xs : List Exchange)
    → IsBegunFromClaim view nand g share c first → view.honest nand ≡ true → (h : HeadlineHolds view g share capacity c (view.flash nand) first xs new)
    → Records (view.recorded nand) (log_of h.headline.run.events) (view.recorded new.engine.nand)

-- ---- of the call that the bus failed in

-- the die's count of failures rose in it, or stands at its top
abbrev pub FailedCallLaw : {N : Type 0} → (view : View N) → Type 0
FailedCallLaw {N} view = (old new : Device N) (x : Exchange) → HasBusFailed view old x new
    → HasRisen (view.failed old.engine.nand) (view.failed new.engine.nand)

-- ---- of all that was served

-- WHERE NO REPLY IS `BusFault`, the headline holds of all exchanges, up to the die that comes back. Whatever the replies, the device was told just the
-- requests that were read, one call each from the device that it began with to the last one
abbrev pub ServedLaw : {N : Type 0} → (view : View N) → Type 0
ServedLaw {N} view = (nand : N) (g : Geometry) (share capacity : ℕ) (c : Claim) (unread left before after : Option (List ℕ)) (result : Result Served ServeFault) (given : N)
    → (s : IsServed view nand g share capacity c unread left before after result given)
    → (commands_in s.exchanges ≡ map command_of s.requests) × ToldEach view s.first s.exchanges s.last
    × (view.honest nand ≡ true → AreKnown s.exchanges → Headline g share capacity c (view.flash nand) (view.flash given) s.exchanges)

-- THE DIE THAT COMES BACK is as honest and as calm as it was handed in, of its geometry, and its count of failures is no lower
abbrev pub BackLaw : {N : Type 0} → (view : View N) → Type 0
BackLaw {N} view = (nand : N) (g : Geometry) (given : N) → IsHandedBack view nand g given
    → (view.honest given ≡ view.honest nand) × (view.calm given ≡ view.calm nand) × ((view.flash given).geometry ≡ g) × (view.failed nand ≤ view.failed given)

-- WHERE NOTHING WAS SERVED the pages of an honest die are as they were, but after a failed page read; a refusal says what is so of them, and a device
-- that found no memory would have begun with a certificate that agrees with them
abbrev pub UnservedLaw : {N : Type 0} → (view : View N) → Type 0
UnservedLaw {N} view = (nand : N) (g : Geometry) (capacity : ℕ) (c : Claim) (why : Refusal) (given : N) → view.honest nand ≡ true
    → (IsUnaccepted view nand g capacity c why given → IsRefusal g capacity (view.flash nand).image c why × (why ≢ refusal.Source → view.flash given ≡ view.flash nand))
    × (IsRunUnstarted view nand g capacity c given → Agrees g capacity (view.flash nand).image c × (view.flash given ≡ view.flash nand))

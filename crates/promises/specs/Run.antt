-- Runs of a device: commands, replies, the die after each, and its log cut in as many pieces.
use Rattle.std.specs.Prelude.{◌≡◌, Bool, true, List, [], ◌∷◌, ◌++◌, length, map, Option}
use Rattle.std.specs.List.{flat_map}
use Rattle.page_layout.specs.Page.{Image}
use Rattle.page_layout.specs.Array.{array_of}
use Rattle.page_layout.specs.Flash.{Flash, Operation, Leads}
use Rattle.page_layout.specs.Recording.{Recording}
use Rattle.promises.specs.Step.{ArrayState, Command, Reply, ArrayStep, ArrayRun}

-- a device between two commands: its die, whether it is read-only, and whether a block of it is being collected from turn to turn
pub record DeviceView : Type 0 where
  pub flash : Flash
  pub ro : Bool
  pub pinned : Bool

-- the array that the die's image holds
abbrev pub state_of : DeviceView → ArrayState
state_of d = record { array = array_of d.flash.geometry d.flash.image; ro = d.ro }

-- a command, its reply, the piece of the log that came in it, the device afterwards, and the record that its die tells then
pub record Event : Type 0 where
  pub command : Command
  pub reply : Reply
  pub piece : List Operation
  pub left : DeviceView
  pub told : Option Recording

-- the piece leads the die from the one image to the next, and the reply is a step from the one array to the next
pub record Happens (old : DeviceView) (event : Event) : Type 0 where
  pub leads : Leads old.flash event.piece event.left.flash
  pub step : ArrayStep old.flash.geometry (state_of old) event.command event.reply (state_of event.left)

-- A RUN: one event after another
abbrev pub Run : DeviceView → List Event → DeviceView → Type 0
Run old [] new = new ≡ old
Run old (event ∷ events) new = Happens old event × Run event.left events new

-- its commands, its replies, its images, and its whole log
abbrev pub commands_of : List Event → List Command
commands_of events = map (λ (e : Event). e.command) events

abbrev pub replies_of : List Event → List Reply
replies_of events = map (λ (e : Event). e.reply) events

abbrev pub images_of : List Event → List Image
images_of events = map (λ (e : Event). e.left.flash.image) events

abbrev pub log_of : List Event → List Operation
log_of events = flat_map (λ (e : Event). e.piece) events

-- the device after the last event
abbrev pub last_of : DeviceView → List Event → DeviceView
last_of device [] = device
last_of device (event ∷ events) = last_of event.left events

-- ---- laws

-- a run goes on by one event
abbrev pub OneMoreEventLaw : Type 0
OneMoreEventLaw = (old mid : DeviceView) (events : List Event) (event : Event) → Run old events mid → Happens mid event → Run old (events ++ event ∷ []) event.left

-- one run after another
abbrev pub RunJoinLaw : Type 0
RunJoinLaw = (old mid new : DeviceView) (xs ys : List Event) → Run old xs mid → Run mid ys new → Run old (xs ++ ys) new

-- it ends in its last device
abbrev pub LastLaw : Type 0
LastLaw = (old new : DeviceView) (events : List Event) → Run old events new → new ≡ last_of old events

-- its pieces are one log, which leads the die from the first image to the last
abbrev pub OneLogLaw : Type 0
OneLogLaw = (old new : DeviceView) (events : List Event) → Run old events new → Leads old.flash (log_of events) new.flash

-- its replies answer its commands, from the array of the first image to that of the last
abbrev pub AnswersLaw : Type 0
AnswersLaw = (old new : DeviceView) (events : List Event) → Run old events new → ArrayRun old.flash.geometry (state_of old) (commands_of events) (replies_of events) (state_of new)

-- a device that is read-only stays so
abbrev pub StaysReadOnlyLaw : Type 0
StaysReadOnlyLaw = (old new : DeviceView) (events : List Event) → Run old events new → old.ro ≡ true → new.ro ≡ true

-- as many replies and images as commands
abbrev pub EachLaw : Type 0
EachLaw = (events : List Event) → (length (replies_of events) ≡ length (commands_of events)) × (length (images_of events) ≡ length (commands_of events))

-- the log of two runs in a row
abbrev pub LogOfRunsLaw : Type 0
LogOfRunsLaw = (xs ys : List Event) → log_of (xs ++ ys) ≡ log_of xs ++ log_of ys

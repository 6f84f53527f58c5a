-- What a turn does for bad blocks.
use Rattle.std.specs.Prelude.{◌≡◌, ℕ, ◌<◌, ◌≤◌, Bool, true, List, [], Ok}
use Rattle.page_layout.specs.declared.geometry.Geometry.{Geometry}
use Rattle.page_layout.specs.Page.{Image}
use Rattle.page_layout.specs.Flash.{Operation}
use Rattle.promises.specs.Log.{bad_of}
use Rattle.promises.specs.Run as runs
use Rattle.promises.specs.Run.{Event}
use Rattle.ftl_device.specs.Flush.{First}
use Rattle.command_queue.specs.Commands.{is_turn}
use Rattle.command_queue.specs.Exchanges.{Exchange}
use Rattle.command_queue.specs.Rescues.{Rescues, newest_in}
use Rattle.command_queue.specs.Run.{IsFair}

-- NO BAD BLOCK GAINS A NEWEST PAGE in a turn that is done
abbrev pub NoGainLaw : Type 0
NoGainLaw = (g : Geometry) (bad : ℕ → Bool) (piece : List Operation) (old new : Image) (b : ℕ) → Rescues g bad piece old new
    → b < g.blocks → bad b ≡ true → newest_in g new b ≤ newest_in g old b

-- ONE THAT PROGRAMS AND ERASES NOTHING found no newest page in a bad block
abbrev pub NoneAilsLaw : Type 0
NoneAilsLaw = (g : Geometry) (bad : ℕ → Bool) (old new : Image) (b : ℕ) → Rescues g bad [] old new
    → b < g.blocks → bad b ≡ true → newest_in g old b ≡ 0

-- SO OF A TURN IN A RUN: none that was bad as it began gains a newest page, and held none where the turn programs and erases nothing
abbrev pub RescuedEventLaw : Type 0
RescuedEventLaw = (first : First) (old : runs.DeviceView) (before : List Operation) (event : Event) (x : Exchange) (b : ℕ) → IsFair first old before event x
    → is_turn x.command ≡ true → x.result ≡ Ok tt → b < first.geometry.blocks → bad_of first.geometry.pages first.bad before b ≡ true
    → (newest_in first.geometry event.left.flash.image b ≤ newest_in first.geometry old.flash.image b)
    × (event.piece ≡ [] → newest_in first.geometry old.flash.image b ≡ 0)

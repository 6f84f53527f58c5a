-- WHAT WAS ASKED, CALL BY CALL: calls that were added one at a time were added together.
use Rattle.std.proofs.Common.{◌≡◌, List, [], ◌∷◌, ◌++◌, ℕ, Option, None, Some, refl, ap, ◌∙◌, append_assoc}
use Rattle.part_files.specs.Names.{AskedOfNames, NameCall, Came, and_one, and_then, asked}
use Rattle.part_files.specs.Names.NameCall.{Remove, SyncFolder}
use Rattle.part_files.specs.Parts.{Settles}

-- some calls and then others
pub then_all : (before : Option (List AskedOfNames)) (more others : List AskedOfNames) → and_then (and_then before more) others ≡ and_then before (more ++ others)
then_all None more others = refl
then_all (Some known) more others = ap Some (append_assoc known more others)

pub settled : {before first second after : Option (List AskedOfNames)} {part path : List ℕ} (synced removed again : Came) →
    first ≡ and_one before (SyncFolder path) synced → second ≡ and_one first (Remove part) removed →
    after ≡ and_one second (SyncFolder path) again → Settles part path before after
settled {before} {part = part} {path = path} synced removed again one two three =
    record {
      first = synced;
      removed = removed;
      second = again;
      calls =
          three
          ∙ ap (λ it. and_one it (SyncFolder path) again)
          (two ∙ ap (λ it. and_one it (Remove part) removed) one ∙ then_all before (asked (SyncFolder path) synced ∷ []) (asked (Remove part) removed ∷ []))
          ∙ then_all before (asked (SyncFolder path) synced ∷ asked (Remove part) removed ∷ []) (asked (SyncFolder path) again ∷ []);
    }

pub two_calls : (before between after : Option (List AskedOfNames)) (one two : NameCall) (first second : Came) → between ≡ and_one before one first → after ≡ and_one between two second →
    after ≡ and_then before (asked one first ∷ asked two second ∷ [])
two_calls before between after one two first second call other =
    other ∙ ap (λ it. and_one it two second) call ∙ then_all before (asked one first ∷ []) (asked two second ∷ [])

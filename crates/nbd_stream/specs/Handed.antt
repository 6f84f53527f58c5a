-- WHETHER WHAT WAS WRITTEN WAS HANDED ON, so that no client waits for it.
use Rattle.std.specs.Prelude.{◌≡◌, ◌⊎◌, Result, Ok, Err}
use Rattle.request_stream.specs.Streams.{EndsBy}
use Rattle.request_stream.specs.declared.reply.ServeFault.{ServeFault}
use Rattle.request_stream.specs.declared.reply.ServeFault.TheVariants as fault
use Rattle.nbd_stream.specs.declared.answer.Answer.{Answer}
use Rattle.nbd_stream.specs.declared.answer.Answer.TheVariants.{Short, Listed, Told, Chosen, Silent}

-- the writer was let be; or its last call was one that handed on all
abbrev pub IsHandedOn : {W : Type 0} → (hands : W → W → Type 0) → (old new : W) → Type 0
IsHandedOn hands old new = (new ≡ old) ⊎ EndsBy hands new

-- by what was answered to an option: nothing is written of a refusal that has no words
abbrev pub HandsAnswer : {W : Type 0} → (hands : W → W → Type 0) → Answer → (old new : W) → Type 0
HandsAnswer hands (Short kind) old new = EndsBy hands new
HandsAnswer hands Listed old new = EndsBy hands new
HandsAnswer hands Told old new = EndsBy hands new
HandsAnswer hands Chosen old new = EndsBy hands new
HandsAnswer hands Silent old new = new ≡ old

-- this holds, unless a call of the writer failed
abbrev pub UnlessUnsent : Type 0 → ServeFault → Type 0
UnlessUnsent P fault.Read = P
UnlessUnsent P fault.Write = Unit {0}
UnlessUnsent P fault.OutOfMemory = ⊥

-- IT WAS, unless a call of the writer failed: of a writer that may have been let be
abbrev pub LeavesHanded : {W T : Type 0} → (hands : W → W → Type 0) → (old new : W) → Result T ServeFault → Type 0
LeavesHanded hands old new (Ok done) = IsHandedOn hands old new
LeavesHanded hands old new (Err e) = UnlessUnsent (IsHandedOn hands old new) e

-- and of one that was not
abbrev pub HasHandedOn : {W T : Type 0} → (hands : W → W → Type 0) → (new : W) → Result T ServeFault → Type 0
HasHandedOn hands new (Ok done) = EndsBy hands new
HasHandedOn hands new (Err e) = UnlessUnsent (EndsBy hands new) e

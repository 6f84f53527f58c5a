-- HOW THE LAST CALL OF A STREAM WENT.
use Rattle.std.specs.Prelude.{◌≡◌, ◌≤◌, ◌⊎◌, ◌*◌, ◌-◌, ◌^◌, ℕ, List, length, Option}
use Rattle.std.specs.Io.KnownBytes.{Consumes}
use Rattle.request_stream.specs.declared.reply.ServeFault.{ServeFault}
use Rattle.request_stream.specs.declared.reply.ServeFault.TheVariants as fault

-- a stream is as such a call left it
abbrev pub EndsBy : {S : Type 0} → (call : S → S → Type 0) → S → Type 0
EndsBy {S} call new = (old : S) × call old new

-- WHAT A FAULT TELLS: the last call of the reader or of the writer failed
abbrev pub HasStreamFailed : {R W : Type 0} → (reads : R → R → Type 0) → (writes : W → W → Type 0) → R → W → ServeFault → Type 0
HasStreamFailed reads writes reader writer fault.Read = EndsBy reads reader
HasStreamFailed reads writes reader writer fault.Write = EndsBy writes writer
HasStreamFailed reads writes reader writer fault.OutOfMemory = ⊥

-- as many requests or options were read as can be counted, each of so many bytes at least
abbrev pub IsCountSpent : (least : ℕ) → (unread left : Option (List ℕ)) → Type 0
IsCountSpent least unread left = (bytes : List ℕ) × (least * (2 ^ 64 - 1) ≤ length bytes) × Consumes unread left bytes

-- WHY A SESSION STOPPED: its last call failed, or `Read` tells that no more can be counted
abbrev pub HasStopped : {R W : Type 0} → (least : ℕ) → (reads : R → R → Type 0) → (writes : W → W → Type 0) → (unread left : Option (List ℕ)) → R → W → ServeFault → Type 0
HasStopped least reads writes unread left reader writer e = HasStreamFailed reads writes reader writer e ⊎ ((e ≡ fault.Read) × IsCountSpent least unread left)

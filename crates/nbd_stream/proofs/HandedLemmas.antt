-- What was handed on, one call after another.
use Rattle.std.proofs.Common.{◌≡◌, ◌∙◌, inl, inr, refl, sym, subst, Result, Ok, Err}
use Rattle.request_stream.specs.Streams.{EndsBy}
use Rattle.request_stream.specs.declared.reply.ServeFault.{ServeFault}
use Rattle.request_stream.specs.declared.reply.ServeFault.TheVariants as fault
use Rattle.nbd_stream.specs.Handed.{IsHandedOn, HasHandedOn, LeavesHanded, UnlessUnsent}

module _ {W : Type 0} (hands : W → W → Type 0) where
  pub still_handed : (old new : W) → EndsBy hands old → IsHandedOn hands old new → EndsBy hands new
  still_handed old new (from, is) (inl same) = (from, subst (λ (w : W). hands from w) (sym same) is)
  still_handed old new before (inr is) = is

  pub handed_then : (old mid new : W) → IsHandedOn hands old mid → IsHandedOn hands mid new → IsHandedOn hands old new
  handed_then old mid new (inl same) (inl same') = inl (same' ∙ same)
  handed_then old mid new (inr is) (inl same) = inr (still_handed mid new is (inl same))
  handed_then old mid new before (inr is) = inr is

  pub leaves_fault : (old mid new : W) (f : ServeFault) → IsHandedOn hands old mid → UnlessUnsent (IsHandedOn hands mid new) f → UnlessUnsent (IsHandedOn hands old new) f
  leaves_fault old mid new fault.Read before is = handed_then old mid new before is
  leaves_fault old mid new fault.Write before is = tt
  leaves_fault old mid new fault.OutOfMemory before is = is

  has_fault : (old new : W) (f : ServeFault) → EndsBy hands old → UnlessUnsent (IsHandedOn hands old new) f → UnlessUnsent (EndsBy hands new) f
  has_fault old new fault.Read before is = still_handed old new before is
  has_fault old new fault.Write before is = tt
  has_fault old new fault.OutOfMemory before is = is

  pub has_then : {T : Type 0} (old new : W) (result : Result T ServeFault) → EndsBy hands old → LeavesHanded hands old new result → HasHandedOn hands new result
  has_then old new (Ok done) before is = still_handed old new before is
  has_then old new (Err f) before is = has_fault old new f before is

-- by the fault that it was
pub unsent : (P : Type 0) (f : ServeFault) → f ≡ fault.Write → UnlessUnsent P f
unsent P f is = subst (UnlessUnsent P) (sym is) tt

pub unread : (P : Type 0) (f : ServeFault) → f ≡ fault.Read → P → UnlessUnsent P f
unread P f is holds = subst (UnlessUnsent P) (sym is) holds

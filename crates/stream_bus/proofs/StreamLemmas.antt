-- A frame that goes out, and what is left of an answer that is cut short.
use Rattle.std.proofs.Common.{◌≡◌, ℕ, List, [], ◌∷◌, Option, Result, Ok, Err, refl, subst, inr, append-nil}
use Rattle.std.specs.Prelude.{MatchResult, OnErr, OnOk}
use Rattle.std.specs.Io.KnownBytes.{Appends, Consumes}
use Rattle.std.proofs.KnownBytes.{Appends-trans, Consumes-trans}
use Rattle.request_stream.specs.Frames.{SendsBytes}
use Rattle.request_stream.proofs.Writing.{front_more}
use Rattle.request_stream.specs.declared.reply.ServeFault.{ServeFault}
use Rattle.stream_bus.specs.Streamed.{Carried, HasReadStopped, IsFrameOut, IsFrameUnsent, ReadsInto, ReadsLess, ReadsPart, StreamWords}

-- behind a status 0
pub part_behind : (a b c : Option (List ℕ)) (status size : ℕ) → status ≡ 0 → Consumes a b (status ∷ []) → ReadsLess b c size → ReadsPart a c size
part_behind a b c status size is read less = record {
  part = 0 ∷ less.part;
  read = Consumes-trans a b c (0 ∷ []) less.part (subst (λ (s : ℕ). Consumes a b (s ∷ [])) is read) less.read;
  cut = inr (less.part, refl, less.less);
}

-- a frame that was written, and then handed on or not
pub handed_then : {W : Type 0} (written : W → Option (List ℕ)) (hands fails : W → W → Type 0) (old mid new : W) (frame : List ℕ) (r : Result (Unit {0}) ServeFault)
    → Appends (written old) (written mid) frame → SendsBytes (written mid) (written new) [] r → OnErr r (fails mid new) → OnOk r (hands mid new)
    → MatchResult r (λ _. IsFrameOut written hands old new frame) (λ _. IsFrameUnsent written fails old new frame)
handed_then written hands fails old mid new frame (Ok done) first second failed handed = record {
  sent = subst (Appends (written old) (written new)) (append-nil frame) (Appends-trans (written old) (written mid) (written new) frame [] first second);
  handed = (mid, handed);
}
handed_then written hands fails old mid new frame (Err fault) first second failed handed = record {
  front = front_more (written old) (written mid) (written new) frame [] frame (append-nil frame) first second.1;
  cause = (mid, failed);
}

-- a frame that went out, and what was read
pub carried_then : {W R : Type 0} (t : StreamWords W R) (writer writer' : W) (reader reader' : R) (frame out : List ℕ) (r : Result ℕ ServeFault) → IsFrameOut t.written t.hands writer writer' frame
    → ReadsInto (t.left reader) (t.left reader') out r → OnErr r (HasReadStopped t.left t.read_fails reader') → Carried t writer writer' reader reader' frame out r
carried_then t writer writer' reader reader' frame out (Ok status) went its cause = record { went = went; answered = its }
carried_then t writer writer' reader reader' frame out (Err fault) went its cause = inr (record { went = went; part = its; cause = cause })

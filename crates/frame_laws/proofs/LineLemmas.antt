-- What is missing of a line keeps it from being whole.
use Rattle.std.proofs.Common.{◌≡◌, Some, Ok, Err, subst}
use Rattle.request_stream.specs.declared.reply.ServeFault.TheVariants as fault
use Rattle.request_stream.proofs.Writing.{never_all, part_front}
use Rattle.frame_laws.specs.Lines.{PartLaw, SentLineLaw}

pub part : PartLaw
part before line after written = (part_front (Some before) after line written, never_all before line after written)

pub sent : SentLineLaw
sent before after line (Ok done) is = (λ ok. is, λ e told. (let never : ⊥ = cc in absurd never))
sent before after line (Err one) is = (
  λ ok. (let never : ⊥ = cc in absurd never),
  λ e told. (let same : one ≡ e = cc in (subst (λ f. f ≡ fault.Write) same is.0, is.1)),
)

-- What is said where a stream ends, each by its case.
use Rattle.std.proofs.Common.{refl}
use Rattle.promises.specs.declared.stream.End.TheVariants.{Boundary, Unfinished, BadFrame}
use Rattle.frame_laws.specs.Ends.{AtEndLaw, NoHeaderLaw, FailedInRequestLaw}

pub at_end : AtEndLaw
at_end size Boundary tail left rests other = rests.1
at_end size Unfinished tail left rests other = rests.1
at_end size BadFrame tail left rests other = absurd (other refl)

pub no_header : NoHeaderLaw
no_header size tail left rests = rests

pub cut : FailedInRequestLaw
cut size unread left buffer fault reads = (reads.1, reads.3, reads.2)

-- How the last call of a stream went, carried on.
use Rattle.std.proofs.Common.{◌≤◌, ◌+◌, ◌*◌, inl, inr, sym, subst, ℕ, List, [], ◌++◌, length, Option, Result, Ok, Err, arith, length-append}
use Rattle.std.specs.Prelude.{OnOk, OnErr, IfErr}
use Rattle.std.specs.Io.KnownBytes.{Consumes}
use Rattle.request_stream.specs.declared.reply.ServeFault.{ServeFault}
use Rattle.nbd_stream.specs.declared.export.Export.{Export}
use Rattle.nbd_stream.specs.declared.negotiation.Negotiated.TheVariants.{Transmission}
use Rattle.nbd_stream.specs.Negotiation.{Negotiates}
use Rattle.nbd_stream.specs.Options.{AskedOption, option_bytes}
use Rattle.request_stream.specs.Streams.{HasStopped}
use Rattle.nbd_stream.specs.Frames.{NbdRequest, nbd_header_bytes, nbd_request_bytes}
use Rattle.std.proofs.KnownBytes.{Consumes-nil, Consumes-trans}

pub on_ok : {T E P Q : Type 0} (result : Result T E) → (P → Q) → OnOk result P → OnOk result Q
on_ok (Ok done) more holds = more holds
on_ok (Err fault) more holds = tt

pub on_err : {T E P Q : Type 0} (result : Result T E) → (P → Q) → OnErr result P → OnErr result Q
on_err (Ok done) more holds = tt
on_err (Err fault) more holds = more holds

-- ---- how much was read, so many times sixteen bytes at least

abbrev pub HaveRead : (count : ℕ) (unread left : Option (List ℕ)) → Type 0
HaveRead count unread left = (bytes : List ℕ) × (16 * count ≤ length bytes) × Consumes unread left bytes

pub none_read : (unread : Option (List ℕ)) → HaveRead 0 unread unread
none_read unread = ([], omega arith, Consumes-nil unread)

pub more_read : (count : ℕ) (unread middle left : Option (List ℕ)) (bytes : List ℕ) → HaveRead count unread middle → 16 ≤ length bytes → Consumes middle left bytes → HaveRead (count + 1) unread left
more_read count unread middle left bytes (before, many, first) long second =
    (before ++ bytes, omega (arith, length-append before bytes, many, long), Consumes-trans unread middle left before bytes first second)

pub long_request : (r : NbdRequest) → 16 ≤ length (nbd_request_bytes r)
long_request r = omega (arith, length-append (nbd_header_bytes r) r.body)

pub long_option : (o : AskedOption) → 16 ≤ length (option_bytes o)
long_option o = omega arith

-- what stopped after some bytes were read, stopped after all of them were
pub stop_later : {R W T : Type 0} (reads : R → R → Type 0) (writes : W → W → Type 0) (unread middle left : Option (List ℕ)) (reader : R) (writer : W) (bytes : List ℕ) (result : Result T ServeFault)
    → Consumes unread middle bytes → IfErr result (HasStopped 16 reads writes middle left reader writer) → IfErr result (HasStopped 16 reads writes unread left reader writer)
stop_later reads writes unread middle left reader writer bytes (Ok done) before stops = tt
stop_later reads writes unread middle left reader writer bytes (Err e) before (inl failed) = inl failed
stop_later reads writes unread middle left reader writer bytes (Err e) before (inr (is, (more, many, after))) =
    inr (is, (bytes ++ more, omega (arith, length-append bytes more, many), Consumes-trans unread middle left bytes more before after))

-- the bytes that a negotiation read
pub negotiated_after : (e : Export) (limit : ℕ) (u v b a : Option (List ℕ)) → Negotiates e limit u v b a (Ok Transmission) → (bytes : List ℕ) × Consumes u v bytes
negotiated_after e limit u v b a (inl (is, same, front)) = ([], subst (λ k. Consumes u k []) (sym same) (Consumes-nil u))
negotiated_after e limit u v b a (inr (greeted, wrote, inl (no_zeroes, u', (flags, few, says, first), (options, u'', b', have, last)))) =
    let second = Consumes-trans u u' u'' _ _ first have.read in
    (_, Consumes-trans u u'' v _ _ second last.read)
negotiated_after e limit u v b a (inr (greeted, wrote, inr (same, never))) = absurd never

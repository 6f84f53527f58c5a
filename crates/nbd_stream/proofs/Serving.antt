-- How a transmission goes on, and how it ends.
use Rattle.std.proofs.Common.{◌≡◌, ◌≤◌, ◌+◌, inl, ℕ, Bool, true, List, [], ◌∷◌, ◌++◌, Option, Some, None, Result, Ok, Err, length, take, refl, sym, ap, ◌∙◌, subst, arith, lit<, append_assoc, append-nil, length-append}
use Rattle.std.specs.Prelude.{IfSome}
use Rattle.std.specs.List.{flat_map, AllByRecursion}
use Rattle.std.proofs.lemmas.List.{map-append, take_at}
use Rattle.std.specs.Io.KnownBytes.{Appends, Consumes}
use Rattle.std.proofs.KnownBytes.{Appends-nil, Appends-trans, Consumes-trans, Consumes-nil}
use Rattle.request_stream.specs.Frames.{AppendsFront, known_bytes_left, SendsBytes}
use Rattle.request_stream.specs.declared.reply.ServeFault.{ServeFault}
use Rattle.request_stream.specs.declared.reply.ServeFault.TheVariants as fault
use Rattle.request_stream.proofs.Writing.{front_more}
use Rattle.nbd_stream.specs.declared.export.Export.{Export}
use Rattle.nbd_stream.specs.declared.fault.DiskFault.{DiskFault}
use Rattle.nbd_stream.specs.declared.reply.RequestError.{RequestError}
use Rattle.nbd_stream.specs.declared.request.NbdHeader.{NbdHeader}
use Rattle.nbd_stream.specs.declared.request.StreamEnd.{StreamEnd}
use Rattle.nbd_stream.specs.declared.request.StreamEnd.TheVariants.{Boundary, Unfinished, BadFrame, Disconnected}
use Rattle.nbd_stream.specs.declared.request.NextRequest.TheVariants as next
use Rattle.nbd_stream.specs.declared.task.Task.{Task}
use Rattle.nbd_stream.specs.Frames.{NbdRequest, IsNbdRequest, IsTransmissionRest, ReadsNbdRequest, TransmissionRests, SplitsTransmission, begins_with_magic, is_end, simple_reply_bytes, reply_header_bytes, request_with_body, nbd_request_bytes}
use Rattle.nbd_stream.specs.Tasks.{admitted, asks_change}
use Rattle.nbd_stream.specs.Disk.{Contents, PerformsTask, answer_from, asked_as, count_given, count_taken, error_for}
use Rattle.nbd_stream.specs.Exchanges.{NbdExchange, HasDone, Round, RestsAfter, RestsBy, TellsBy, TellsRound, ToldEachRound, AreRested, IsRested, bytes_in, exchanges_in, reply_bytes_in, requests_in, task_of}
use Rattle.nbd_stream.specs.Runs.{Runs}
use Rattle.nbd_stream.specs.Until.{IsHonestUntil}
use Rattle.nbd_stream.specs.Transmission.{Carries, HasServedRound, ReadsNbdRequests, Replies, Rested, ServesNext, Transmits}
use Rattle.nbd_stream.proofs.Asked.{room_for, taken_of}
use Rattle.nbd_stream.proofs.Negotiating.{all_more, map_more}
use Rattle.nbd_stream.proofs.RoundLemmas.{back_of, done_of, rests_done_of, round_calm, round_sized, runs_of}
use Rattle.nbd_stream.proofs.TaskLemmas.{admitted_sound}
use Rattle.nbd_stream.proofs.UntilLemmas.{until_of}

abbrev pub refusal : RequestError → Result (Unit {0}) RequestError
refusal error = Err error

module _ {D : Type 0} (contents : D → Contents) (honest calm : D → Bool) (does : D → Task → Result (Unit {0}) DiskFault → D → Type 0) (e : Export) where
  -- ---- one request

  asked_of : Result Task RequestError → (old new : D) → NbdExchange → Type 0
  asked_of k old new x = TellsBy contents honest calm does k old x new

  -- it was refused
  pub refused : (old : D) (h : NbdHeader) (body : List ℕ) (error : RequestError) (b a : Option (List ℕ)) (result : Result (Unit {0}) ServeFault) → admitted e h ≡ Err error
      → SendsBytes b a (simple_reply_bytes h.cookie (refusal error) []) result → Replies contents honest calm does e old (request_with_body h body) old b a result
  unfolding asked_of
  refused old h body error b a result is sends =
      let x : NbdExchange = record { request = request_with_body h body; answer = Err error } in
      record { exchange = x; request_is = refl; tells = subst (λ k. asked_of k old old x) (sym is) (refl, refl); sends = sends }

  module _ (old new : D) (h : NbdHeader) (task : Task) (body buffer : List ℕ) (b a : Option (List ℕ)) (result : Result (Unit {0}) ServeFault)
      (is : admitted e h ≡ Ok task) (request : IsNbdRequest (request_with_body h body)) (stands : length body ≤ length buffer → body ≡ take (length body) buffer) (room : e.maximum ≤ length buffer) where
    -- the bytes that the disk took are those of the request
    body_is : take (count_taken task) buffer ≡ body
    body_is =
        let long : length body ≡ count_taken task = taken_of e (request_with_body h body) task request is in
        let fits : count_taken task + count_given task ≤ length buffer = room_for e task (length buffer) (admitted_sound e h task is) room in
        ap (λ (n : ℕ). take n buffer) (sym long) ∙ sym (stands (omega arith))

    -- it was asked of the disk
    performed : (answer : Result (List ℕ) RequestError) → PerformsTask contents honest calm task (take (count_taken task) buffer) old answer new
        → HasDone does task old answer new → SendsBytes b a (simple_reply_bytes h.cookie answer (bytes_in answer)) result
        → Replies contents honest calm does e old (request_with_body h body) new b a result
    unfolding asked_of
    performed answer performs done sends =
        let x : NbdExchange = record { request = request_with_body h body; answer = answer } in
        record {
          exchange = x;
          request_is = refl;
          tells = subst (λ k. asked_of k old new x) (sym is) (subst (λ (l : List ℕ). PerformsTask contents honest calm task l old answer new) body_is performs, done);
          sends = sends;
        }

    pub performed_ok : (done : Result (Unit {0}) DiskFault) (x : Unit {0}) (gave bytes : List ℕ) → done ≡ Ok x → bytes ≡ gave → PerformsTask contents honest calm task (take (count_taken task) buffer) old (answer_from done gave) new → does old (asked_as task) done new
        → SendsBytes b a (reply_header_bytes 0 h.cookie ++ bytes) result → Replies contents honest calm does e old (request_with_body h body) new b a result
    performed_ok done x gave bytes ok same performs does_so sends =
        performed (Ok gave) (subst (λ (r : Result (Unit {0}) DiskFault). PerformsTask contents honest calm task (take (count_taken task) buffer) old (answer_from r gave) new) ok performs)
        (record { done = done; told = sym (ap (λ r. answer_from r gave) ok); does_so = does_so })
        (subst (λ (l : List ℕ). SendsBytes b a (reply_header_bytes 0 h.cookie ++ l) result) same sends)

    pub performed_err : (done : Result (Unit {0}) DiskFault) (f : DiskFault) (gave : List ℕ) (error : RequestError) → done ≡ Err f
        → error ≡ error_for f → PerformsTask contents honest calm task (take (count_taken task) buffer) old (answer_from done gave) new
        → does old (asked_as task) done new
        → SendsBytes b a (simple_reply_bytes h.cookie (refusal error) []) result → Replies contents honest calm does e old (request_with_body h body) new b a result
    performed_err done f gave error err same performs does_so sends =
        performed (Err (error_for f)) (subst (λ (r : Result (Unit {0}) DiskFault). PerformsTask contents honest calm task (take (count_taken task) buffer) old (answer_from r gave) new) err performs)
        (record { done = done; told = sym (ap (λ r. answer_from r []) err); does_so = does_so })
        (subst (λ (k : RequestError). SendsBytes b a (simple_reply_bytes h.cookie (refusal k) []) result) same sends)

module _ {D : Type 0} (contents : D → Contents) (honest calm : D → Bool) (does : D → Task → Result (Unit {0}) DiskFault → D → Type 0) (rests : D → Result (Unit {0}) DiskFault → D → Type 0) (e : Export) where
  -- ---- the next request

  module _ (old new : D) (u v b a : Option (List ℕ)) (h : NbdHeader) (body : List ℕ) (is : IsNbdRequest (request_with_body h body)) (read : Consumes u v (nbd_request_bytes (request_with_body h body))) where
    served : (writes : List ℕ → Type 0) (rested : Round → Type 0) (x : Round) → x.exchange.request ≡ request_with_body h body → TellsRound contents honest calm does rests e old x new → writes (reply_bytes_in x.exchange) → rested x
        → HasServedRound contents honest calm does rests e old new u v writes rested
    served writes rested x same tells wrote is_rested = record {
      round = x;
      whole = subst IsNbdRequest (sym same) is;
      read = subst (λ (r : NbdRequest). Consumes u v (nbd_request_bytes r)) (sym same) read;
      tells = tells;
      written = wrote;
      has_rested = is_rested;
    }

    pub next_served : (mid : D) (done : Unit {0}) → Replies contents honest calm does e old (request_with_body h body) mid b a (Ok done) → RestsAfter contents honest calm rests (admitted e h) mid new
        → ServesNext contents honest calm does rests e old new u v b a (Ok None)
    next_served mid done replies (rested, some, rest) =
        let x : Round = record { exchange = replies.exchange; rested = rested } in
        let tells : TellsRound contents honest calm does rests e old x new = record {
          mid = mid;
          tells = replies.tells;
          rest = subst (λ (r : NbdRequest). RestsBy contents honest calm rests (task_of e r) mid rested new) (sym replies.request_is) rest;
        } in
        served (Appends b a) (IsRested e) x replies.request_is tells replies.sends
        (λ asks. some (subst (λ (r : NbdRequest). asks_change (task_of e r) ≡ true) replies.request_is asks))

    pub next_unsent : (f : ServeFault) → Replies contents honest calm does e old (request_with_body h body) new b a (Err f) → ServesNext contents honest calm does rests e old new u v b a (Err f)
    next_unsent f replies =
        let x : Round = record { exchange = replies.exchange; rested = None } in
        let tells : TellsRound contents honest calm does rests e old x new = record { mid = new; tells = replies.tells; rest = refl } in
        subst (λ (k : ServeFault). ServesNext contents honest calm does rests e old new u v b a (Err k)) (sym replies.sends.0)
        (served (AppendsFront b a) (λ (y : Round). y.rested ≡ None) x replies.request_is tells replies.sends.1 refl)

  module _ (old : D) (u v b : Option (List ℕ)) (buffer : List ℕ) where
    pub next_ended : (end : StreamEnd) → ReadsNbdRequest u v buffer (Ok (next.Ended end)) → ServesNext contents honest calm does rests e old old u v b b (Ok (Some end))
    next_ended end (tail, rests, read) = record { tail = tail; is = rests; read = read; same = refl; kept = refl }

    pub next_unread : (f : ServeFault) → ReadsNbdRequest u v buffer (Err f) → ServesNext contents honest calm does rests e old old u v b b (Err f)
    next_unread f (is, tail, begins, read) =
        subst (λ (k : ServeFault). ServesNext contents honest calm does rests e old old u v b b (Err k)) (sym is) (record { tail = tail; is = begins; read = read; same = refl; kept = refl })

  -- ---- many

  told_more : (old mid new : D) (xs : List Round) (x : Round) → ToldEachRound contents honest calm does rests e old xs mid → TellsRound contents honest calm does rests e mid x new → ToldEachRound contents honest calm does rests e old (xs ++ x ∷ []) new
  told_more old mid new [] x same one = (new, subst (λ (d : D). TellsRound contents honest calm does rests e d x new) same one, refl)
  told_more old mid new (y ∷ xs) x (next, first, more) one = (next, first, told_more next mid new xs x more one)

  -- so many requests were read and answered, of their replies so much was written, and the disk rested so
  pub record IsServing (old now : D) (unread left : Option (List ℕ)) (writes : List ℕ → Type 0) (rested : List Round → Type 0) : Type 0 where
    pub rounds : List Round
    pub each : ToldEachRound contents honest calm does rests e old rounds now
    pub sized : length (contents now).bytes ≡ length (contents old).bytes
    pub calm_is : calm now ≡ calm old
    pub read : ReadsNbdRequests unread left (requests_in (exchanges_in rounds)) []
    pub written : writes (flat_map reply_bytes_in (exchanges_in rounds))
    pub have_rested : rested rounds

  pub serving_none : (old : D) (u b : Option (List ℕ)) → IsServing old old u u (Appends b b) (AreRested e)
  serving_none old u b = record {
    rounds = [];
    each = refl;
    sized = refl;
    calm_is = refl;
    read = record { each = tt; bytes = Consumes-nil u };
    written = Appends-nil b;
    have_rested = tt;
  }

  module _ (old mid : D) (u v b c : Option (List ℕ)) (so_far : IsServing old mid u v (Appends b c) (AreRested e)) where
    -- the requests, and then these bytes
    reads_then : (w : Option (List ℕ)) (tail : List ℕ) → Consumes v w tail → ReadsNbdRequests u w (requests_in (exchanges_in so_far.rounds)) tail
    reads_then w tail more =
        let all : List ℕ = flat_map nbd_request_bytes (requests_in (exchanges_in so_far.rounds)) in
        record { each = so_far.read.each; bytes = Consumes-trans u v w all tail (subst (Consumes u v) (append-nil all) so_far.read.bytes) more }

    -- one request more, whose reply is sent whole or in part, and after which the disk rested or not
    serving_more : (new : D) (w : Option (List ℕ)) (writes sends : List ℕ → Type 0) (rested : Round → Type 0) (are_rested : List Round → Type 0) → HasServedRound contents honest calm does rests e mid new v w writes rested
        → ((front bytes : List ℕ) → Appends b c front → writes bytes → sends (front ++ bytes)) → ((front : List Round) (x : Round) → AreRested e front → rested x → are_rested (front ++ x ∷ []))
        → IsServing old new u w sends are_rested
    serving_more new w writes sends rested are_rested one joins rests_join =
        let rounds : List Round = so_far.rounds in
        let xs : List NbdExchange = exchanges_in rounds in
        let x : NbdExchange = one.round.exchange in
        let exchanges : exchanges_in (rounds ++ one.round ∷ []) ≡ xs ++ x ∷ [] = map-append (λ (y : Round). y.exchange) rounds (one.round ∷ []) in
        let requests : requests_in (exchanges_in (rounds ++ one.round ∷ [])) ≡ requests_in xs ++ x.request ∷ [] =
        ap requests_in exchanges ∙ map-append (λ (y : NbdExchange). y.request) xs (x ∷ []) in
        let bytes : flat_map nbd_request_bytes (requests_in (exchanges_in (rounds ++ one.round ∷ []))) ≡ flat_map nbd_request_bytes (requests_in xs) ++ nbd_request_bytes x.request =
        ap (flat_map nbd_request_bytes) requests ∙ map_more nbd_request_bytes (requests_in xs) x.request in
        let replies : flat_map reply_bytes_in (exchanges_in (rounds ++ one.round ∷ [])) ≡ flat_map reply_bytes_in xs ++ reply_bytes_in x = ap (flat_map reply_bytes_in) exchanges ∙ map_more reply_bytes_in xs x in
        let later : ReadsNbdRequests u w (requests_in xs) (nbd_request_bytes x.request) = reads_then w (nbd_request_bytes x.request) one.read in
        record {
          rounds = rounds ++ one.round ∷ [];
          each = told_more old mid new rounds one.round so_far.each one.tells;
          sized = round_sized contents honest calm does rests e mid new one.round one.tells ∙ so_far.sized;
          calm_is = round_calm contents honest calm does rests e mid new one.round one.tells ∙ so_far.calm_is;
          read = record {
            each = subst (AllByRecursion IsNbdRequest) (sym requests) (all_more IsNbdRequest (requests_in xs) x.request so_far.read.each one.whole);
            bytes = subst (Consumes u w) (sym (append-nil (flat_map nbd_request_bytes (requests_in (exchanges_in (rounds ++ one.round ∷ [])))) ∙ bytes)) later.bytes;
          };
          written = subst sends (sym replies) (joins (flat_map reply_bytes_in xs) (reply_bytes_in x) so_far.written one.written);
          have_rested = rests_join rounds one.round so_far.have_rested one.has_rested;
        }

    pub serving_on : (new : D) (w a : Option (List ℕ)) → ServesNext contents honest calm does rests e mid new v w c a (Ok None) → IsServing old new u w (Appends b a) (AreRested e)
    serving_on new w a one =
        serving_more new w (Appends c a) (Appends b a) (IsRested e) (AreRested e) one (λ front bytes wrote more. Appends-trans b c a front bytes wrote more) (λ front x are is. all_more (IsRested e) front x are is)

  -- ---- the end

  module _ (old now : D) (u v : Option (List ℕ)) (writes : List ℕ → Type 0) (rested : List Round → Type 0) (so_far : IsServing old now u v writes rested) where
    -- what was served until now, with these bytes read and written
    pub transmitted : (new : D) (w b a : Option (List ℕ)) (result : Result StreamEnd ServeFault) → new ≡ now → Rested e so_far.rounds result → Carries u w b a (exchanges_in so_far.rounds) result
        → Transmits contents honest calm does rests e old new u w b a result
    transmitted new w b a result same has_rested stream = record {
      rounds = so_far.rounds;
      each = subst (λ (d : D). ToldEachRound contents honest calm does rests e old so_far.rounds d) (sym same) so_far.each;
      rested = has_rested;
      sized = ap (λ (d : D). length (contents d).bytes) same ∙ so_far.sized;
      back = λ h. back_of contents honest calm does rests e old now so_far.rounds so_far.each (sym (ap honest same) ∙ h);
      calm_is = ap calm same ∙ so_far.calm_is;
      until = λ h. subst (λ (d : D). IsHonestUntil contents honest calm does rests e old so_far.rounds d) (sym same) (until_of contents honest calm does rests e old now so_far.rounds so_far.each h);
      run = λ h. subst (λ (d : D). Runs e (contents old) (exchanges_in so_far.rounds) (contents d)) (sym same)
          (runs_of contents honest calm does rests e old now so_far.rounds so_far.each (sym (ap honest same) ∙ h));
      done = λ h. (done_of contents honest calm does rests e old now so_far.rounds so_far.each h, rests_done_of contents honest calm does rests e old now so_far.rounds so_far.each h);
      stream = stream;
    }

  module _ (old mid : D) (u v b c : Option (List ℕ)) (so_far : IsServing old mid u v (Appends b c) (AreRested e)) where
    pub stopped : (new : D) (w a : Option (List ℕ)) (f : ServeFault) → ServesNext contents honest calm does rests e mid new v w c a (Err f) → Transmits contents honest calm does rests e old new u w b a (Err f)
    stopped new w a fault.Read one =
        transmitted old mid u v (Appends b c) (AreRested e) so_far new w b a (Err fault.Read) one.same so_far.have_rested
        (one.tail, reads_then old mid u v b c so_far w one.tail one.read, one.is, subst (λ (k : Option (List ℕ)). Appends b k (flat_map reply_bytes_in (exchanges_in so_far.rounds))) (sym one.kept) so_far.written)
    stopped new w a fault.Write one =
        let all = serving_more old mid u v b c so_far new w (AppendsFront c a) (AppendsFront b a) (λ (x : Round). x.rested ≡ None) (λ (xs : List Round). Rested e xs (Err fault.Write)) one
        (λ front bytes wrote more. front_more b c a front bytes (front ++ bytes) refl wrote more) (λ before last are none. (before, last, refl, are, none)) in
        transmitted old new u w (AppendsFront b a) (λ (xs : List Round). Rested e xs (Err fault.Write)) all new w b a (Err fault.Write) refl all.have_rested (all.read, all.written)
    stopped new w a fault.OutOfMemory one = absurd one

    -- as many requests were answered as can be counted
    pub counted_out : Transmits contents honest calm does rests e old mid u v b c (Err fault.Read)
    counted_out = transmitted old mid u v (Appends b c) (AreRested e) so_far mid v b c (Err fault.Read) refl so_far.have_rested ([], so_far.read, inl (lit< tt), so_far.written)

    ends_so : (end : StreamEnd) (tail left : List ℕ) → TransmissionRests end tail (Some left) → IsTransmissionRest end (tail ++ left)
    ends_so Boundary tail left (nothing, ended) = ap (λ (l : List ℕ). l ++ left) nothing ∙ ended
    ends_so Unfinished tail left (part, ended) = subst (IsTransmissionRest Unfinished) (sym (ap (λ (l : List ℕ). tail ++ l) ended ∙ append-nil tail)) part
    ends_so BadFrame tail left (long, bad) = (omega (arith, length-append tail left, long), ap begins_with_magic (take_at tail left 28 long) ∙ bad)
    ends_so Disconnected tail left (long, good, ends) =
        (omega (arith, length-append tail left, long), ap begins_with_magic (take_at tail left 28 long) ∙ good, ap is_end (take_at tail left 28 long) ∙ ends)

    splits_so : (all w : Option (List ℕ)) (end : StreamEnd) (tail : List ℕ) → ReadsNbdRequests all w (requests_in (exchanges_in so_far.rounds)) tail
        → TransmissionRests end tail w → IfSome all (λ input. SplitsTransmission input (requests_in (exchanges_in so_far.rounds)) end (tail ++ known_bytes_left w))
    splits_so None w end tail reads rest = tt
    splits_so (Some input) None end tail reads rest = absurd reads.bytes
    splits_so (Some input) (Some left) end tail reads rest = record {
      whole = reads.bytes ∙ append_assoc (flat_map nbd_request_bytes (requests_in (exchanges_in so_far.rounds))) tail left;
      each = reads.each;
      ends = ends_so end tail left rest;
    }

    pub finished : (new : D) (w a : Option (List ℕ)) (end : StreamEnd) → ServesNext contents honest calm does rests e mid new v w c a (Ok (Some end)) → Transmits contents honest calm does rests e old new u w b a (Ok end)
    finished new w a end one =
        let reads = reads_then old mid u v b c so_far w one.tail one.read in
        transmitted old mid u v (Appends b c) (AreRested e) so_far new w b a (Ok end) one.same so_far.have_rested (
          one.tail,
          reads,
          one.is,
          subst (λ (k : Option (List ℕ)). Appends b k (flat_map reply_bytes_in (exchanges_in so_far.rounds))) (sym one.kept) so_far.written,
          splits_so u w end one.tail reads one.is,
        )

-- How a session goes on, and how it ends.
use Rattle.std.proofs.Common.{◌≡◌, ◌≢◌, ◌≤◌, ◌+◌, ◌-◌, ◌*◌, ◌^◌, ℕ, List, [], ◌∷◌, ◌++◌, Option, Some, None, Result, Ok, Err, map, length, sym}
use Rattle.std.proofs.Common.{subst, ap, ◌∙◌, refl, append_assoc, append-nil, length-append, arith, inl, inr, lit<}
use Rattle.std.specs.Prelude.{IfSome}
use Rattle.std.specs.List.{flat_map}
use Rattle.std.proofs.lemmas.List.{map-append, take_at, length-map}
use Rattle.std.specs.Io.KnownBytes.{Appends, Consumes}
use Rattle.std.proofs.KnownBytes.{Appends-trans, Appends-nil, Consumes-trans, Consumes-nil, Keeps-refl}
use Rattle.page_layout.specs.View.{View}
use Rattle.promises.specs.Stream.{Request, IsRequest, header_bytes, IsBeginning, IsRest, Splits, command_of, is_header, request_bytes, reply_bytes, replies_bytes}
use Rattle.promises.specs.Stream.{last_bytes}
use Rattle.promises.specs.declared.stream.End.{End}
use Rattle.promises.specs.declared.stream.End.TheVariants.{Boundary, Unfinished, BadFrame}
use Rattle.promises.proofs.StreamLemmas.{replies_join}
use Rattle.request_stream.specs.declared.reply.ServeFault.{ServeFault}
use Rattle.request_stream.specs.declared.reply.ServeFault.TheVariants as fault
use Rattle.request_stream.specs.Frames.{AppendsFront, HasReadNoRequest, known_bytes_left, last_count, Rests}
use Rattle.request_stream.specs.Streams.{IsCountSpent}
use Rattle.request_stream.proofs.Writing.{front_more}
use Rattle.ftl_device.specs.declared.device.Device.{Device}
use Rattle.ftl_device.specs.Device.{IsDevice}
use Rattle.command_queue.specs.Exchanges.{Exchange, reply_in, commands_in, replies_in}
use Rattle.command_queue.specs.Told.{WasTold}
use Rattle.command_queue.proofs.ToldLemmas.{all_more, told_none, told_more}
use Rattle.block_server.specs.declared.server.Served.{Served}
use Rattle.block_server.specs.Session.{ReadsRequests, Session, HasServed, ServesNextCommand}

abbrev failure : ServeFault → Result Served ServeFault
failure e = Err e

-- ---- lists

requests_more : (rs : List Request) (r : Request) → flat_map request_bytes (rs ++ r ∷ []) ≡ flat_map request_bytes rs ++ request_bytes r
requests_more [] r = append-nil (request_bytes r)
requests_more (y ∷ rs) r = ap (λ l. request_bytes y ++ l) (requests_more rs r) ∙ sym (append_assoc (request_bytes y) (flat_map request_bytes rs) (request_bytes r))

as_many : (xs : List Exchange) (rs : List Request) → commands_in xs ≡ map command_of rs → length (replies_in xs) ≡ length rs
as_many xs rs e =
    length-map xs reply_in ∙ (sym (length-map xs (λ (x : Exchange). x.command)) ∙ (ap length e ∙ length-map rs command_of))

-- each request has a header of twelve bytes
long_requests : (rs : List Request) → 12 * length rs ≤ length (flat_map request_bytes rs)
long_requests [] = omega arith
long_requests (r ∷ rs) = omega (arith, length-append (request_bytes r) (flat_map request_bytes rs), length-append (header_bytes r) r.body, long_requests rs)

-- ---- a session so far

-- so many requests were read and told to the device, and of their replies so much was written
pub record IsServing {N : Type 0} (view : View N) (old now : Device N) (unread left : Option (List ℕ)) (writes : List ℕ → Type 0) (count : ℕ) : Type 0 where
  pub requests : List Request
  pub exchanges : List Exchange
  pub commands : commands_in exchanges ≡ map command_of requests
  pub told : WasTold view old exchanges now
  pub read : ReadsRequests old.engine.geometry.data_bytes unread left requests []
  pub counted : count ≡ length requests
  pub written : writes (replies_bytes requests (replies_in exchanges))

module _ {N : Type 0} (view : View N) (old : Device N) where
  pub serving_none : (u b : Option (List ℕ)) → IsDevice view.flash old → IsServing view old old u u (Appends b b) 0
  serving_none u b device = record {
    requests = [];
    exchanges = [];
    commands = refl;
    told = told_none view old device;
    read = record { each = tt; bytes = Consumes-nil u };
    counted = refl;
    written = Appends-nil b;
  }

  module _ (mid : Device N) (u v b c : Option (List ℕ)) (n : ℕ) (safe : IsDevice view.flash old) (so_far : IsServing view old mid u v (Appends b c) n) where
    size_is : mid.engine.geometry.data_bytes ≡ old.engine.geometry.data_bytes
    size_is = ap (λ g. g.data_bytes) so_far.told.calls.sized

    -- the requests, and then these bytes
    reads_then : (w : Option (List ℕ)) (tail : List ℕ) → Consumes v w tail → ReadsRequests old.engine.geometry.data_bytes u w so_far.requests tail
    reads_then w tail more =
        let all : List ℕ = flat_map request_bytes so_far.requests in
        record { each = so_far.read.each; bytes = Consumes-trans u v w all tail (subst (Consumes u v) (append-nil all) so_far.read.bytes) more }

    -- one request more, whose reply is sent whole or in part
    pub serving_more : (new : Device N) (w : Option (List ℕ)) (writes sends : List ℕ → Type 0)
        → HasServed view mid new v w writes
        → ((front bytes : List ℕ) → Appends b c front → writes bytes → sends (front ++ bytes))
        → IsServing view old new u w sends (n + 1)
    serving_more new w writes sends one joins =
        let rs : List Request = so_far.requests in
        let xs : List Exchange = so_far.exchanges in
        let r : Request = one.request in
        let x : Exchange = one.exchange in
        let front : List ℕ = replies_bytes rs (replies_in xs) in
        let joined : replies_bytes (rs ++ r ∷ []) (replies_in (xs ++ x ∷ [])) ≡ front ++ reply_bytes r (reply_in x) =
        ap (replies_bytes (rs ++ r ∷ [])) (map-append reply_in xs (x ∷ [])) ∙ (replies_join rs (r ∷ []) (replies_in xs) (reply_in x ∷ []) (as_many xs rs so_far.commands) ∙ ap (λ l. front ++ l) (append-nil (reply_bytes r (reply_in x)))) in
        let whole : List ℕ = flat_map request_bytes (rs ++ r ∷ []) in
        let later : ReadsRequests old.engine.geometry.data_bytes u w rs (request_bytes r) = reads_then w (request_bytes r) one.read in
        record {
          requests = rs ++ r ∷ [];
          exchanges = xs ++ x ∷ [];
          commands = map-append (λ (y : Exchange). y.command) xs (x ∷ []) ∙ (ap (λ l. l ++ x.command ∷ []) so_far.commands ∙ (ap (λ k. map command_of rs ++ k ∷ []) one.command_is ∙ sym (map-append command_of rs (r ∷ []))));
          told = told_more view old mid new xs x safe so_far.told one.tells;
          read = record {
            each = all_more (IsRequest old.engine.geometry.data_bytes) rs r so_far.read.each (subst (λ k. IsRequest k r) size_is one.whole);
            bytes = subst (Consumes u w) (sym (append-nil whole ∙ requests_more rs r)) later.bytes;
          };
          counted = ap (λ k. k + 1) so_far.counted ∙ sym (length-append rs (r ∷ []));
          written = subst sends (sym joined) (joins front (reply_bytes r (reply_in x)) so_far.written one.written);
        }

    -- ---- the end

    told_so : (new : Device N) → new ≡ mid → WasTold view old so_far.exchanges new
    told_so new same = subst (λ d. WasTold view old so_far.exchanges d) (sym same) so_far.told

    -- a reply could not be written, or a read failed
    pub stopped : (new : Device N) (w a : Option (List ℕ)) (e : ServeFault) → ServesNextCommand view mid new v w c a (Err e) → Session view old new u w b a (Err e)
    stopped new w a fault.Read one = record {
      requests = so_far.requests;
      exchanges = so_far.exchanges;
      commands = so_far.commands;
      told = told_so new one.same;
      stream = (
        one.tail,
        reads_then w one.tail one.read,
        subst (λ k. IsBeginning k one.tail) size_is one.is,
        subst (λ k. Appends b k (replies_bytes so_far.requests (replies_in so_far.exchanges))) (sym one.kept) so_far.written,
      );
    }
    stopped new w a fault.Write one =
        let all = serving_more new w (AppendsFront c a) (AppendsFront b a) one (λ front bytes wrote more. front_more b c a front bytes (front ++ bytes) refl wrote more) in
        record { requests = all.requests; exchanges = all.exchanges; commands = all.commands; told = all.told; stream = inl (all.read, all.written) }
    stopped new w a fault.OutOfMemory one = absurd one

    -- as many requests were answered as can be counted
    pub counted_out : Session view old mid u v b c (Err fault.Read)
    counted_out = record {
      requests = so_far.requests;
      exchanges = so_far.exchanges;
      commands = so_far.commands;
      told = so_far.told;
      stream = ([], so_far.read, inl (lit< tt), so_far.written);
    }

    -- and these were all that can be counted
    pub spent : 2 ^ 64 - 1 ≤ n → IsCountSpent 12 u v
    spent is =
        let all : List ℕ = flat_map request_bytes so_far.requests in
        (all ++ [], omega (arith, length-append all [], long_requests so_far.requests, so_far.counted, is), so_far.read.bytes)

    module _ (new : Device N) (w d a : Option (List ℕ)) (end : End) (none : HasReadNoRequest mid new v w c d (λ tail. Rests mid.engine.geometry.data_bytes end tail w)) where
      rests : Rests old.engine.geometry.data_bytes end none.tail w
      rests = subst (λ k. Rests k end none.tail w) size_is none.is

      ends_so : (e : End) (tail left : List ℕ) → Rests old.engine.geometry.data_bytes e tail (Some left) → IsRest old.engine.geometry.data_bytes e (tail ++ left)
      ends_so Boundary tail left (nothing, ended) = ap (λ l. l ++ left) nothing ∙ ended
      ends_so Unfinished tail left (part, ended) =
          subst (λ l. IsRest old.engine.geometry.data_bytes Unfinished l) (sym (ap (λ l. tail ++ l) ended ∙ append-nil tail)) part
      ends_so BadFrame tail left (long, bad) =
          (omega (arith, length-append tail left, long), ap is_header (take_at tail left 12 long) ∙ bad)

      splits_so : (all w' : Option (List ℕ)) (tail : List ℕ) → ReadsRequests old.engine.geometry.data_bytes all w' so_far.requests tail
          → Rests old.engine.geometry.data_bytes end tail w'
          → IfSome all (λ input. Splits old.engine.geometry.data_bytes input so_far.requests end (tail ++ known_bytes_left w'))
      splits_so None w' tail reads rest = tt
      splits_so (Some input) None tail reads rest = absurd reads.bytes
      splits_so (Some input) (Some left) tail reads rest = record {
        whole = reads.bytes ∙ append_assoc (flat_map request_bytes so_far.requests) tail left;
        each = reads.each;
        ends = ends_so end tail left rest;
      }

      pub finished : (count : ℕ) → Appends d a (last_bytes end) → count ≡ last_count end → Session view old new u w b a (Ok (record { replies = n + count; end = end }))
      finished count sent is = record {
        requests = so_far.requests;
        exchanges = so_far.exchanges;
        commands = so_far.commands;
        told = told_so new none.same;
        stream = (
          none.tail,
          reads_then w none.tail none.read,
          rests,
          Appends-trans b c a (replies_bytes so_far.requests (replies_in so_far.exchanges)) (last_bytes end) so_far.written (subst (λ k. Appends k a (last_bytes end)) none.kept sent),
          ap (λ k. k + count) so_far.counted ∙ ap (λ k. length so_far.requests + k) is,
          splits_so u w none.tail (reads_then w none.tail none.read) rests,
        );
      }

      pub unfinished : (e : ServeFault) → end ≡ BadFrame → e ≡ fault.Write → AppendsFront d a (last_bytes end) → Session view old new u w b a (Err e)
      unfinished e bad is front =
          let front' : AppendsFront c a (last_bytes BadFrame) = subst (λ k. AppendsFront k a (last_bytes BadFrame)) none.kept (subst (λ k. AppendsFront d a (last_bytes k)) bad front) in
          let rests' : Rests old.engine.geometry.data_bytes BadFrame none.tail w = subst (λ k. Rests old.engine.geometry.data_bytes k none.tail w) bad rests in
          let all : List ℕ = replies_bytes so_far.requests (replies_in so_far.exchanges) in
          subst (λ k. Session view old new u w b a (Err k)) (sym is) (record {
            requests = so_far.requests;
            exchanges = so_far.exchanges;
            commands = so_far.commands;
            told = told_so new none.same;
            stream = inr (none.tail, reads_then w none.tail none.read, rests'.0, rests'.1, front_more b c a all (last_bytes BadFrame) (all ++ last_bytes BadFrame) refl so_far.written front');
          })

-- the next request wants no memory
pub never_next : {N : Type 0} (view : View N) (old new : Device N)
    (u v b a : Option (List ℕ)) (e : ServeFault) → ServesNextCommand view old new u v b a (Err e)
    → failure e ≢ failure fault.OutOfMemory
never_next view old new u v b a fault.Read one is = (let no : ⊥ = cc in no)
never_next view old new u v b a fault.Write one is = (let no : ⊥ = cc in no)
never_next view old new u v b a fault.OutOfMemory one is = one

pub never_last : (e : ServeFault) → e ≡ fault.Write → failure e ≢ failure fault.OutOfMemory
never_last e is none = (let no : ⊥ = cc in no)

-- nothing was served
pub untold : {N : Type 0} (view : View N) (old : Device N) (u b : Option (List ℕ)) → IsDevice view.flash old → Session view old old u u b b (Err fault.OutOfMemory)
untold view old u b device = record {
  requests = [];
  exchanges = [];
  commands = refl;
  told = told_none view old device;
  stream = (refl, Keeps-refl u, Keeps-refl b);
}

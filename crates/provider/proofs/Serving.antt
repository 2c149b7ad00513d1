-- A request that was fetched is answered: from what the calls of a serve promise to what a serve promises.
use Rattle.std.proofs.Common.{◌≡◌, ℕ, ◌-◌, ◌≤◌, Bool, true, false, ltb, List, length, take, Some, Ok, Err, Result, sym, refl, ap, ◌∙◌, subst, ⊎_elim, arith}
use borrow.Author.Tests.{both_ways}
use Rattle.std.proofs.lemmas.Bool.{le-ltb}
use Rattle.carrier.proofs.Cells.{sends}
use Rattle.carrier.proofs.Fetches.{GotSome, fetched_some, fetched_octets}
use Rattle.carrier.specs.declared.lane.Lane.TheVariants.{Up, Down}
use Rattle.carrier.specs.declared.lane.PlaceRefusal.{PlaceRefusal}
use Rattle.carrier.specs.declared.lane.PlaceRefusal.TheVariants.{Full}
use Rattle.carrier.specs.Fetch.{Fetched, brought_in}
use Rattle.carrier.specs.Lanes.{Lanes}
use Rattle.carrier.specs.Place.{Placed, place_answer}
use Rattle.message.proofs.Builds.{response_long, built_sound, built_start, built_message}
use Rattle.message.specs.declared.flags.ResponseFlags.{ResponseFlags}
use Rattle.message.specs.declared.parameters.Parameters.{Parameters}
use Rattle.message.specs.declared.request.Request.{Request}
use Rattle.message.specs.declared.response.Response.{Response}
use Rattle.message.specs.Layout.{request_read}
use Rattle.message.specs.Response.{longest, response_octets, build_answer, built}
use Rattle.provider.specs.declared.answer.ServeAnswer.{ServeAnswer}
use Rattle.provider.specs.declared.answer.ServeRefusal.{ServeRefusal}
use Rattle.provider.specs.declared.answer.ServeRefusal.TheVariants.{Full as LaneFull}
use Rattle.provider.specs.Serve.{Memory, response_to, reply, reply_to, told_of, told_to}
use Rattle.provider.specs.Served.{Served, replied_in}
use Rattle.record.specs.Kind.{Format, Lawful}

module _ {R : Type 0} (f : Format R) (laws : Lawful f) (p : Parameters) (memory : Memory R) (r : R) (flags : ResponseFlags)
    (k mid l : Lanes) (s t : List ℕ) (n : ℕ) (long : longest ≤ length s) (ok : f.sound r ≡ true)
    (fetched : Fetched Up k mid s t (Ok (Some n))) (q : Request) (read : request_read (take (n - 0) t) ≡ Some q)
    (a : Response R) (is : a ≡ response_to f memory r flags q)
    (b : List ℕ) (end : ℕ) (built_ok : build_answer f a t ≡ Ok end) (built_is : b ≡ built f p a t) where
  got : GotSome Up k mid s t n
  got = fetched_some Up k mid s t n fetched

  -- the octets that were read are the message
  message : take (n - 0) t ≡ got.message
  message = fetched_octets got.message s t n got.long got.leaves

  is_request : request_read got.message ≡ Some q
  is_request = ap request_read (sym message) ∙ read

  sent : reply f memory r flags (Some got.message) ≡ Some a
  sent = ap (reply_to f memory r flags) is_request ∙ ap Some (sym is)

  so : (taken : Bool) (answer : Result ServeAnswer ServeRefusal) → Placed Down (take (end - 0) b) mid l (place_answer taken)
      → answer ≡ told_to f memory taken (Some q) → Served f p memory r flags k s (Some a) l b answer
  so taken answer put says =
      let whole : Placed Down (response_octets f p a) mid l (place_answer taken) =
      subst (λ m. Placed Down m mid l (place_answer taken)) (built_message f laws p a t b end built_ok built_is) put in
      record {
        short = λ e. absurd (both_ways (ltb (length s) longest) (le-ltb (length s) longest long) e);
        unsound = λ _ e. absurd (both_ways (f.sound r) e ok);
        served = λ _ _. record {
          brought = Some got.message;
          between = mid;
          taken = taken;
          fetched = got.got;
          replied = rw sent whole;
          remembers = rw sent refl;
          answers = says ∙ ap (told_to f memory taken) (sym is_request);
          leaves = built_start f laws p a t b end built_ok built_is
              ∙ ap (λ x. replied_in f p (Some a) x) got.leaves
              ∙ ap (λ x. replied_in f p x (brought_in (Some got.message) s)) (sym sent);
        };
      }

  pub served_taken : (u : Unit) (x : ServeAnswer) → x ≡ told_of f memory q → Placed Down (take (end - 0) b) mid l (Ok u)
      → Served f p memory r flags k s (Some a) l b (Ok x)
  served_taken u x e put = so true (Ok x) put (ap Ok e)

  pub served_full : (x : PlaceRefusal) → Placed Down (take (end - 0) b) mid l (Err x) → Served f p memory r flags k s (Some a) l b (Err LaneFull)
  served_full x put =
      let size = response_long f laws p a (built_sound f laws p a t b end built_ok built_is) in
      let few = laws.few in
      let fits = sends (response_octets f p a) (omega arith) (omega arith) in
      let whole = subst (λ m. Placed Down m mid l (Err x)) (built_message f laws p a t b end built_ok built_is) put in
      let is_full : Err x ≡ Err Full = ⊎_elim (λ e. cc) (λ e. e) (whole.put fits).answers in
      so false (Err LaneFull) (subst (λ y. Placed Down (take (end - 0) b) mid l y) is_full put) refl

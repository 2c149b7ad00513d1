-- All laws of every run, and how a call on a link extends the history that led to it.
use Rattle.std.proofs.Common.{◌≡◌, ℕ, Bool, true, false, ltb, List, [], ◌∷◌, length, Some, None, Option, Result, sym, refl, ap, ◌∙◌, subst, inl, inr}
use Rattle.consumer.specs.Cycled.{Cycled}
use Rattle.consumer.specs.declared.consumer.Consumer.{Consumer}
use Rattle.consumer.specs.declared.event.CycleRefusal.{CycleRefusal}
use Rattle.provider.specs.declared.provider.Provider.{Provider}
use Rattle.provider.specs.Served.{Served}
use Rattle.link.specs.Laws.{Every_run}
use Rattle.link.specs.Links.{Ends, Reached, Extends, moment, CycleRuns, serve_call, ServeRuns}
use Rattle.link.specs.Runs.{Call, History, Ran, Happens, Strange, Replied, consumer_after, provider_after, consumer_at, provider_at, lanes_at}
use Rattle.link.specs.Runs.Call.{cycled, cycle_refused, served, serve_refused, placed}
use Rattle.link.specs.Words.{Lane, PlaceRefusal, Brought, Message, Lanes, HasSlots, Placed, CycleAnswer, Setup, Inputs, fresh}
use Rattle.link.specs.Words.{Memory, Parameters, Response, ResponseFlags, ServeAnswer, ServeRefusal, reply, told, told_to, request_read, longest, Format, Lawful}
use Rattle.link.proofs.Freshness.{fresh_runs}
use Rattle.link.proofs.Holds.{marked_runs, held_runs}
use Rattle.link.proofs.Prompts.{prompt_runs}

pub every_run : {R : Type 0} (f : Format R) → Lawful f → Every_run f
every_run f laws s first h ran few = record {
  fresh = fresh_runs f laws s first h ran few;
  marked = marked_runs f s first h ran;
  held = held_runs f s first h ran;
  prompt = prompt_runs f laws s first h ran few;
}

module _ {R : Type 0} {f : Format R} (laws : Lawful f) {e e' : Ends R} (same_setup : e'.consumer.setup ≡ e.consumer.setup)
    (same_parameters : e'.provider.parameters ≡ e.provider.parameters) where
  -- a call that happens to the state before extends every history that led there
  pub extends : (x : Call R)
      → (e.provider.parameters ≡ e.consumer.setup.parameters → Happens f e.consumer.setup e.consumer.state e.provider.memory e.lanes x e'.lanes)
      → consumer_after f e.consumer.setup e.consumer.state x ≡ e'.consumer.state → provider_after f e.provider.memory x ≡ e'.provider.memory
      → Extends f x e e'
  extends x happens state memory = record {
    setup = same_setup;
    parameters = same_parameters;
    reaches = λ first h r. record {
      equal = same_parameters ∙ r.equal ∙ ap (λ z. z.parameters) (sym same_setup);
      ran = subst (λ z. Ran f z first (moment x e'.lanes ∷ h)) (sym same_setup) (ran first h r);
      consumer = ap (λ z. consumer_at f z (moment x e'.lanes ∷ h)) same_setup ∙ ap (λ z. consumer_after f e.consumer.setup z x) r.consumer ∙ state;
      provider = ap (λ z. provider_after f z x) r.provider ∙ memory;
      lanes = refl;
    };
    laws = λ first h r. every_run f laws e.consumer.setup first (moment x e'.lanes ∷ h) (ran first h r);
  }
    where
      ran : (first : Lanes) (h : History R) → Reached f first h e → Ran f e.consumer.setup first (moment x e'.lanes ∷ h)
      ran first h r = (
        r.ran,
        subst (λ z. Happens f e.consumer.setup z (provider_at f h) (lanes_at first h) x e'.lanes) (sym r.consumer)
            (subst (λ z. Happens f e.consumer.setup e.consumer.state z (lanes_at first h) x e'.lanes) (sym r.provider)
            (subst (λ z. Happens f e.consumer.setup e.consumer.state e.provider.memory z x e'.lanes) (sym r.lanes) (happens r.equal))),
      )

module _ {R : Type 0} {f : Format R} (laws : Lawful f) {i : Inputs} {e e' : Ends R} {s t : List ℕ}
    (same_setup : e'.consumer.setup ≡ e.consumer.setup) (same : e'.provider ≡ e.provider) where
  cycle_by : (r : Result (CycleAnswer R) CycleRefusal) (short : Bool) → ltb (length s) longest ≡ short
      → Cycled f e.consumer.setup.parameters e.consumer.state i e.lanes s e'.consumer.state e'.lanes t r → CycleRuns f i e e' r
  cycle_by r true d x =
      let y = x.short d in
      rw y.answers (record {
        brought = None;
        taken = false;
        extends = extends laws same_setup (ap (λ z. z.parameters) same) (cycle_refused i) (λ _. y.lanes) (sym y.state)
            (ap (λ z. z.memory) (sym same));
      })
  cycle_by r false d x =
      let y = x.cycled d in
      rw y.answers (record {
        brought = y.brought;
        taken = y.taken;
        extends = extends laws same_setup (ap (λ z. z.parameters) same) (cycled i y.brought y.taken _)
            (λ _. record { between = y.between; fetched = y.fetched; sent = y.sent; answer = refl }) (sym y.state)
            (ap (λ z. z.memory) (sym same));
      })

  pub cycle_runs : (r : Result (CycleAnswer R) CycleRefusal)
      → Cycled f e.consumer.setup.parameters e.consumer.state i e.lanes s e'.consumer.state e'.lanes t r → CycleRuns f i e e' r
  cycle_runs r x = cycle_by r (ltb (length s) longest) refl x

-- a link just made has the empty history
pub new_reached : {R : Type 0} (f : Format R) (s : Setup) (c : Consumer R) (p : Provider R) (l : Lanes) → c.setup ≡ s → c.state ≡ fresh f s
    → p.parameters ≡ s.parameters → p.memory ≡ None → HasSlots l → l.up ≡ [] → l.down ≡ []
    → Reached f l [] (record { consumer = c; provider = p; lanes = l })
new_reached f s c p l es ec ep em slots up down = record {
  equal = ep ∙ ap (λ z. z.parameters) (sym es);
  ran = (up, down, slots);
  consumer = ap (λ z. fresh f z) es ∙ sym ec;
  provider = sym em;
  lanes = refl;
}

-- a stranger's place is its own call
pub place_runs : {R : Type 0} {f : Format R} (laws : Lawful f) {e : Ends R} {w : Lane} {m : Message} {l : Lanes}
    {r : Result Unit PlaceRefusal} → Placed w m e.lanes l r → Strange f e.consumer.setup.parameters w m
    → Extends f (placed w m r) e (record { consumer = e.consumer; provider = e.provider; lanes = l })
place_runs laws {w = w} {m = m} {r = r} put strange = extends laws refl refl (placed w m r) (λ _. (strange, put)) refl refl

-- equal parameters build the same response
replied_as : {R : Type 0} (f : Format R) (p q : Parameters) (mid l : Lanes) (o : Option (Response R)) (taken : Bool) → p ≡ q
    → Replied f p mid o taken l → Replied f q mid o taken l
replied_as f p q mid l o taken e x = subst (λ z. Replied f z mid o taken l) e x

-- what a serve tells past its first tests is never a refusal before the fetch
told_call : {R : Type 0} (f : Format R) (p : Memory R) (r : R) (flags : ResponseFlags) (b : Brought) (taken : Bool)
    → serve_call r flags b taken (told f p b taken) ≡ served r flags b taken (told f p b taken)
told_call f p r flags None taken = refl
told_call f p r flags (Some m) taken = by (request_read m)
  where
    by : (q : Option _) → serve_call r flags (Some m) taken (told_to f p taken q) ≡ served r flags (Some m) taken (told_to f p taken q)
    by None = refl
    by (Some q) = by_taken taken
      where
        by_taken : (z : Bool) → serve_call r flags (Some m) taken (told_to f p z (Some q)) ≡ served r flags (Some m) taken (told_to f p z (Some q))
        by_taken true = refl
        by_taken false = refl

module _ {R : Type 0} {f : Format R} (laws : Lawful f) {r : R} {flags : ResponseFlags} {e e' : Ends R} {s t : List ℕ}
    (same : e'.consumer ≡ e.consumer) (same_parameters : e'.provider.parameters ≡ e.provider.parameters) where
  serve_by : (x : Result ServeAnswer ServeRefusal) (short ok : Bool) → ltb (length s) longest ≡ short → f.sound r ≡ ok
      → Served f e.provider.parameters e.provider.memory r flags e.lanes s e'.provider.memory e'.lanes t x → ServeRuns f r flags e e' x
  serve_by x true ok a d g =
      let y = g.short a in
      rw y.answers (record {
        brought = None;
        taken = false;
        extends = extends laws (ap (λ z. z.setup) same) same_parameters (serve_refused r flags _) (λ _. (inl refl, y.lanes))
            (ap (λ z. z.state) (sym same)) (sym y.remembers);
      })
  serve_by x false false a d g =
      let y = g.unsound a d in
      rw y.answers (record {
        brought = None;
        taken = false;
        extends = extends laws (ap (λ z. z.setup) same) same_parameters (serve_refused r flags _) (λ _. (inr (refl, d), y.lanes))
            (ap (λ z. z.state) (sym same)) (sym y.remembers);
      })
  serve_by x false true a d g =
      let y = g.served a d in
      rw y.answers (record {
        brought = y.brought;
        taken = y.taken;
        extends = rw (told_call f e.provider.memory r flags y.brought y.taken)
            (extends laws (ap (λ z. z.setup) same) same_parameters (served r flags y.brought y.taken _)
            (λ q. record {
              is_sound = d;
              between = y.between;
              fetched = y.fetched;
              replied = replied_as f e.provider.parameters e.consumer.setup.parameters y.between e'.lanes
                  (reply f e.provider.memory r flags y.brought) y.taken q y.replied;
              answer = refl;
            }) (ap (λ z. z.state) (sym same)) (sym y.remembers));
      })

  pub serve_runs : (x : Result ServeAnswer ServeRefusal)
      → Served f e.provider.parameters e.provider.memory r flags e.lanes s e'.provider.memory e'.lanes t x → ServeRuns f r flags e e' x
  serve_runs x g = serve_by x (ltb (length s) longest) (f.sound r) refl refl g

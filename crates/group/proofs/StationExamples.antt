-- The premises on stations can be met too: settings in range boot a program, and every run over lines is the wire of a run of stations. Assumes nothing.
use Prim.Native.Nat.{ℕ}
use mathlib.Core.Path.{◌≡◌, refl, sym, ap, subst, ◌∙◌}
use mathlib.Core.Bool.{true}
use mathlib.Core.List.{List}
use mathlib.Core.Option.{Option, none, some}
use Rattle.units.specs.declared.settings.Numbers.{Numbers}
use Rattle.message.specs.declared.settings.Settings.{Settings}
use Rattle.message.specs.Settings.{settings_fit}
use Rattle.controller.specs.declared.state.Controller.{Controller}
use Rattle.session.specs.declared.stage.Core.{Core}
use Rattle.session.specs.Booting.{led, Settles}
use Rattle.session.specs.Turn.{core_start}
use Rattle.session.proofs.Booting.{settings_lead}
use Rattle.group.specs.Premises.{Meters}
use Rattle.group.specs.World.{empty, EventOf, hand, store, crash, put, On, here, next}
use Rattle.group.specs.Wire.{Wire, afterwards, KeptLine, OnwardLines}
use Rattle.group.specs.Stations.{Stations, line, boot, turned, later, wire_in, Asked, Booted, OnwardStations}
use Rattle.group.proofs.Sent.{put_there, put_same}
use Rattle.group.proofs.Stations.{FineIn, follows, fallen, boot_wire, spoken_none, turned_wire}

-- ---- a run over lines, by stations
crash_none : (s : Numbers) (w : Wire) (i : ℕ) → w.up i ≡ none → afterwards s w (crash i) ≡ w
crash_none s w i e = λ k.
    record { up = λ j. (ap (λ (x : Option Controller). put w.up i x j) (sym e) ∙ put_same w.up i j) k; sent = w.sent; stored = w.stored; confirmed = w.confirmed }

module _ (t : Settings) (fit : settings_fit t ≡ true) (meters : Meters) where
  abbrev s : Numbers
  s = t.numbers

  -- the lines of the settings lead a new program to its first B
  abbrev booting : Settles t
  booting = settings_lead t fit

  abbrev pub fresh : Core
  fresh = led core_start booting.lines

  pub booted : Booted s fresh
  booted =
      record {
        waits = ap (λ (c : Core). c.stage) (sym booting.core) ∙ booting.waits;
        settings = ap (λ (c : Core). c.settling.settings.numbers) (sym booting.core) ∙ ap (λ (x : Settings). x.numbers) booting.settings;
      }

  -- stations that keep the premises, and whose wire is x
  pub record Stood (x : Wire) : Type 0 where
    pub stations : Stations
    pub run : OnwardStations s meters empty stations
    pub wire : wire_in s stations ≡ x

  -- a number whose program runs takes the ln
  taken_in : {x : Wire} (b : Stood x) (i : ℕ) (ln : List ℕ) (c : Core) → b.stations.up i ≡ some c → KeptLine s meters x i ln → Stood (afterwards s x (hand i ln))
  taken_in b i ln c u k =
      let w = b.stations in
      let f = (follows s meters (λ j. tt) b.run).1 i in
      let a : Asked s meters w i ln (some c) = subst (λ (y : Wire). KeptLine s meters y i ln) (sym b.wire) k in
      record {
        stations = later w (hand i (line ln));
        run = next b.run (hand i (line ln)) (subst (Asked s meters w i ln) (sym u) a);
        wire = ap (λ (y : Option Core). wire_in s (turned w i ln y)) u ∙ sym (turned_wire s meters w i ln c u (subst (FineIn s) u f)) ∙ ap (λ (y : Wire). afterwards s y (hand i ln)) b.wire;
      }

  -- one that is down is booted
  abbrev risen : {x : Wire} (b : Stood x) (i : ℕ) → b.stations.up i ≡ none → Stood x
  risen b i u =
      let w = b.stations in
      record {
        stations = later w (hand i (boot booting.lines));
        run = next b.run (hand i (boot booting.lines)) booted;
        wire = sym (boot_wire s meters w i booting.lines booted) ∙ crash_none s (wire_in s w) i (rw u) ∙ b.wire;
      }

  handed_on : {x : Wire} (b : Stood x) (i : ℕ) (ln : List ℕ) (y : Option Core) → b.stations.up i ≡ y → KeptLine s meters x i ln → Stood (afterwards s x (hand i ln))
  handed_on b i ln (some c) u k = taken_in b i ln c u k
  handed_on b i ln none u k = taken_in (risen b i u) i ln fresh (put_there b.stations.up i (some fresh)) k

  happened : {x : Wire} → Stood x → (e : EventOf (List ℕ)) → On (KeptLine s meters) x e → Stood (afterwards s x e)
  happened b (hand i ln) k = handed_on b i ln (b.stations.up i) refl k
  happened b (store i label) k =
      record { stations = later b.stations (store i label); run = next b.run (store i label) tt; wire = ap (λ (y : Wire). afterwards s y (store i label)) b.wire }
  happened b (crash i) k =
      record {
        stations = later b.stations (crash i);
        run = next b.run (crash i) tt;
        wire = sym (fallen s meters b.stations i none b.stations.sent refl refl) ∙ ap (λ (y : Wire). afterwards s y (crash i)) b.wire;
      }

  -- EVERY RUN OVER LINES IS ONE OF STATIONS
  pub stood : {x : Wire} → OnwardLines s meters empty x → Stood x
  stood here = record { stations = empty; run = here; wire = spoken_none s meters }
  stood (next on e k) = happened (stood on) e k

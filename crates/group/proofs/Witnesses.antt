-- THE PREMISES CAN BE MET: three runs that the checker computes, event by event, with all that is sent in them. Assumes nothing.
use mathlib.Core.Path.{◌≡◌, refl}
use mathlib.Core.Bool.{true}
use Rattle.units.specs.Every.{every}
use Rattle.units.specs.Settings.{group_fits, runs_fit, numbers_fit}
use Rattle.message.specs.Settings.{certificate_fits, settings_fit}
use Rattle.lines.specs.Lists.{column}
use Rattle.controller_laws.specs.Session.{numbers}
use Rattle.group.specs.World.{empty, here}
use Rattle.group.specs.Premises.{Kept, Run}
use Rattle.group.specs.Scripts.{played, all_fair, all_writable, refusals, saying}
use Rattle.group.specs.Examples.{steady, session_acts, session_says, three, returning, returning_says, mixed, mixed_numbers, mixed_says, certified}
use Rattle.group.specs.Wire.{OnwardLines}
use Rattle.group.proofs.Examples.{scripted}
use Rattle.group.proofs.Wire.{wire_of}
use Rattle.group.proofs.WireExamples.{scripted_lines}
use Rattle.group.proofs.StationExamples.{Stood, stood}
use Rattle.group.proofs.Computes.{world_computes}

-- each event keeps the premises
session_fair : all_fair numbers steady empty session_acts ≡ true
unfolding world_computes numbers session_acts
session_fair = refl

returning_fair : all_fair three steady empty returning ≡ true
unfolding world_computes three returning
returning_fair = refl

-- document 01's session, as a run that keeps every premise, and all that is sent in it
pub session_run : Run numbers (Kept steady) (played numbers empty session_acts)
session_run = scripted numbers steady empty empty session_acts here session_fair

pub session_says_lem : saying numbers (played numbers empty session_acts) ≡ session_says
unfolding world_computes numbers session_acts session_says
session_says_lem = refl

-- a crash, a restart at the floor, two issued labels: a run that keeps every premise, and all that is sent in it
pub returning_run : Run three (Kept steady) (played three empty returning)
returning_run = scripted three steady empty empty returning here returning_fair

pub returning_says_lem : saying three (played three empty returning) ≡ returning_says
unfolding world_computes three returning returning_says
returning_says_lem = refl

-- all three controllers issue one label, each from other votes, after a round that ended undecided: a run that keeps every premise, all that is sent in it, and every refusal
mixed_fair : all_fair three steady empty mixed ≡ true
unfolding world_computes three mixed
mixed_fair = refl

pub mixed_run : Run three (Kept steady) (played three empty mixed)
mixed_run = scripted three steady empty empty mixed here mixed_fair

pub mixed_says_lem : saying three (played three empty mixed) ≡ mixed_says
unfolding world_computes three mixed mixed_says
mixed_says_lem = refl

pub mixed_refused : refusals three empty mixed ≡ mixed_numbers
unfolding world_computes three mixed mixed_numbers
mixed_refused = refl

-- every message in them can be written
session_written : all_writable numbers session_acts ≡ true
unfolding world_computes numbers session_acts
session_written = refl

returning_written : all_writable three returning ≡ true
unfolding world_computes three returning
returning_written = refl

mixed_written : all_writable three mixed ≡ true
unfolding world_computes three mixed
mixed_written = refl

-- the same runs over lines
pub session_lines : OnwardLines numbers steady empty (wire_of numbers steady (played numbers empty session_acts))
session_lines = scripted_lines numbers steady empty session_acts here here session_fair session_written

pub returning_lines : OnwardLines three steady empty (wire_of three steady (played three empty returning))
returning_lines = scripted_lines three steady empty returning here here returning_fair returning_written

pub mixed_lines : OnwardLines three steady empty (wire_of three steady (played three empty mixed))
mixed_lines = scripted_lines three steady empty mixed here here mixed_fair mixed_written

-- and of stations, which have the session's certificates
pub session_certified : settings_fit (certified numbers) ≡ true
unfolding numbers column every group_fits runs_fit numbers_fit certificate_fits settings_fit
session_certified = refl

pub returning_certified : settings_fit (certified three) ≡ true
unfolding three column every group_fits runs_fit numbers_fit certificate_fits settings_fit
returning_certified = refl

pub session_stations : Stood (certified numbers) session_certified steady (wire_of numbers steady (played numbers empty session_acts))
session_stations = stood (certified numbers) session_certified steady session_lines

pub returning_stations : Stood (certified three) returning_certified steady (wire_of three steady (played three empty returning))
returning_stations = stood (certified three) returning_certified steady returning_lines

pub mixed_stations : Stood (certified three) returning_certified steady (wire_of three steady (played three empty mixed))
mixed_stations = stood (certified three) returning_certified steady mixed_lines

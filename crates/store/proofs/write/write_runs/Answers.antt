-- `write_runs` meets its contract. Assumes nothing.
use mathlib.Core.Path.{refl, sym, ◌∙◌}
use Rattle.store.proofs.Writing.{few_of, lines_stop, rows_stop, date_stop, serials_stop, days_stop, force_stop, force_fits, force_writes, serials_in}
use Rattle.store.proofs.write.write_runs.Goals as goal

pub returns-in_err-check_lines : goal.returns-in_err-check_lines
returns-in_err-check_lines c = lines_stop _ _ _ _ _ c.check_lines.ensures _ c.in_err-check_lines.was _ c.from_residual.ensures.1

pub gather-requires : goal.gather-requires
gather-requires c = (few_of _ c.args.day.now c.args.serials c.args.buf.now _ c.check_lines.ensures _ c.in_ok-check_lines.was, refl)

pub returns-in_err-n : goal.returns-in_err-n
returns-in_err-n c = rows_stop _ _ _ _ _ c.check_lines.ensures _ c.in_ok-check_lines.was _ _ c.gather.ensures.0 _ c.in_err-n.was _ c.from_residual-in_err-n.ensures.1

pub returns-in_err-date : goal.returns-in_err-date
returns-in_err-date c = date_stop _ _ _ _ _ c.check_lines.ensures _ c.in_ok-check_lines.was _ _ c.gather.ensures.0 _ c.in_ok-n.was _ c.date_of.ensures _ c.in_err-date.was _ c.from_residual-in_err-date.ensures.1

pub returns-in_err-check_serials : goal.returns-in_err-check_serials
returns-in_err-check_serials c = serials_stop _ _ _ _ _ c.check_lines.ensures _ c.in_ok-check_lines.was _ _ c.gather.ensures.0 _ c.in_ok-n.was _ c.date_of.ensures _ c.in_ok-date.was _ c.check_serials.ensures _ c.in_err-check_serials.was _ c.from_residual-in_err-check_serials.ensures.1

pub returns-in_err-check_days : goal.returns-in_err-check_days
returns-in_err-check_days c = days_stop _ _ _ _ _ c.check_lines.ensures _ c.in_ok-check_lines.was _ _ c.gather.ensures.0 _ c.in_ok-n.was _ c.date_of.ensures _ c.in_ok-date.was _ c.check_serials.ensures _ c.in_ok-check_serials.was _ c.check_days.ensures _ c.in_err-check_days.was _ c.from_residual-in_err-check_days.ensures.1

pub settings_in_force-requires : goal.settings_in_force-requires
settings_in_force-requires c = (serials_in _ _ (sym c.check_serials.ensures ∙ c.in_ok-check_serials.was)).1

pub returns-in_err-settings_in_force : goal.returns-in_err-settings_in_force
returns-in_err-settings_in_force c = force_stop _ _ _ _ _ c.check_lines.ensures _ c.in_ok-check_lines.was _ _ c.gather.ensures.0 _ c.in_ok-n.was _ c.date_of.ensures _ c.in_ok-date.was _ c.check_serials.ensures _ c.in_ok-check_serials.was _ c.check_days.ensures _ c.in_ok-check_days.was _ c.settings_in_force.ensures _ c.in_err-settings_in_force.was _ c.from_residual-in_err-settings_in_force.ensures.1

pub write_lines-requires : goal.write_lines-requires
write_lines-requires c = force_fits _ _ _ c.args.buf.now _ c.check_lines.ensures _ c.in_ok-check_lines.was _ _ c.gather.ensures.0 _ c.in_ok-n.was _ c.date_of.ensures _ c.in_ok-date.was _ c.check_serials.ensures _ c.in_ok-check_serials.was _ c.check_days.ensures _ c.in_ok-check_days.was _ c.settings_in_force.ensures _ c.in_ok-settings_in_force.was

pub returns : goal.returns
returns c = force_writes _ _ _ _ _ c.check_lines.ensures _ c.in_ok-check_lines.was _ _ c.gather.ensures.0 _ c.in_ok-n.was _ c.date_of.ensures _ c.in_ok-date.was _ c.check_serials.ensures _ c.in_ok-check_serials.was _ c.check_days.ensures _ c.in_ok-check_days.was _ c.settings_in_force.ensures _ c.in_ok-settings_in_force.was _ _ c.write_lines.ensures

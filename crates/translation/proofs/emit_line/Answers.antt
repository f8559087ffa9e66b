-- `emit_line` meets its contract.
-- Assumes nothing.
use mir.Val.{to_z, of_z}
use mir.Syntax.{w32}
use mathlib.Core.Path.{refl}
use Rattle.translation.proofs.Writing.{emit_cell, emit_label, emit_variable, emit_none}
use borrow.Author.Rules.{rules}
use Rattle.translation.proofs.emit_line.Goals as goal

pub returns-in-Blank : goal.returns-in-Blank
returns-in-Blank c = rw c.in-Blank.is (emit_none c.args.names.rows.now c.args.places c.args.buffer.now refl)

pub returns-in-Label : goal.returns-in-Label
returns-in-Label c =
    let a = c.args in
    rw c.in-Label.is (emit_label a.names.rows.now a.places a.buffer.now c.in-Label.name c.place_of.result c.place_of.ensures c.write_label.ensures)

pub returns-in-Declared : goal.returns-in-Declared
returns-in-Declared c =
    let a = c.args in
    rw c.in-Declared.is
    (emit_variable a.names.rows.now a.places a.buffer.now c.in-Declared.name c.in-Declared.start (to_z w32 (of_z w32 c.in-Declared.start)) (search rules) c.write_variable.ensures)

pub resolve-requires : goal.resolve-requires
resolve-requires c = rw c.in-Acts.is at c.requires.keyed

pub returns-in-Acts : goal.returns-in-Acts
returns-in-Acts c =
    let a = c.args in
    rw c.in-Acts.is (emit_cell a.names.rows.now a.places a.buffer.now c.in-Acts.cell c.resolve.result c.resolve.ensures c.write_cell.ensures)

use Rattle.sp_command.proofs.fault_lines.write_packed_line.Goals as goal

pub returns : goal.returns
returns g c =
    rw (← c.format.ensures.text, ← c.as_bytes-number.ensures.value, ← c.packed_name_of.ensures, ← c.as_bytes-name.ensures.value, ← c.packed_letter_of.ensures, ← c.as_bytes-letter.ensures.value)
    c.write_texts.ensures

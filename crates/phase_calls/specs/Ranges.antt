-- The operations that ask a range of tags.
use Rattle.plain_table.specs.declared.scripts.Op.{Op}
use Rattle.plain_table.specs.declared.scripts.Op.TheVariants.{Load, Store, Swap, Raw, RawSet, TLoad, TRaw}

abbrev pub AsksRange : Op → Type 0
AsksRange (Load var f first last) = Unit {0}
AsksRange (Store var f first last value) = Unit {0}
AsksRange (Swap var f first last value) = Unit {0}
AsksRange (Raw word first last) = Unit {0}
AsksRange (RawSet word first last value) = Unit {0}
AsksRange (TLoad var first last) = Unit {0}
AsksRange (TRaw word first last) = Unit {0}
AsksRange _ = ⊥

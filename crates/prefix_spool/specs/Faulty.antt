-- A spool with a fault to come.
use Rattle.std.specs.Prelude.{◌≡◌, ◌-◌, nat_eq, if◌then◌else◌}
use Rattle.prefix_spool.specs.declared.coming.Coming.{Coming}
use Rattle.prefix_spool.specs.declared.coming.Coming.TheVariants.{Nothing, FullBehind, MemoryBehind}

-- no push is left before the fault
abbrev pub IsFullNow : Coming → Type 0
IsFullNow coming = coming ≡ FullBehind 0

-- the spool inside took a pair
abbrev pub after_push : Coming → Coming
after_push Nothing = Nothing
after_push (FullBehind pushes) = FullBehind (pushes - 1)
after_push (MemoryBehind reads) = MemoryBehind reads

-- a read was asked for: the one that is refused leaves no fault to come
abbrev pub after_read : Coming → Coming
after_read Nothing = Nothing
after_read (FullBehind pushes) = FullBehind pushes
after_read (MemoryBehind reads) = if nat_eq reads 0 then Nothing else MemoryBehind (reads - 1)

-- whether it is that one
abbrev pub IsRefused : Coming → Type 0
IsRefused coming = coming ≡ MemoryBehind 0

-- What a closure has taken may be shared by threads with it.
use mathlib.Core.List.{List, [], ◌∷◌}
use mir.Syntax.{Sym}
use denote.RattleType.{RattleType}
use denote.Param.Send.{AllSync, IsSync}
use denote.Param.SendFields.{FieldsHave, as_row_sync, declared_sync}
use denote.Struct.Field.{row_field}
use denote.Struct.Tuple.{TupleAt, parts, type_at}

parts_have : (Ts : List RattleType) → AllSync Ts → FieldsHave IsSync (parts Ts)
parts_have [] s = tt
parts_have (T ∷ Ts) s = (as_row_sync (row_field T) s.0, parts_have Ts s.1)

pub captured_sync : (ν : Sym) (Ts : List RattleType) → AllSync Ts → IsSync (TupleAt ν Ts)
captured_sync ν Ts s = declared_sync (type_at ν Ts) (parts_have Ts s)

mod FieldLaws

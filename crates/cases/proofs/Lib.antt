mod Divides
